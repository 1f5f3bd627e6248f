-- The window of spans of which a shard notes where the heads stand. No public clause cites this
-- module.
use Rattle.std.specs.Prelude.{◌≡◌, ◌+◌, ◌-◌, ◌*◌, ℕ, List, Option, get_or, length, max, slice_get, refl}
use Rattle.std.specs.Coded.{Coded, code_by, coded×, coded_list, coded_ℕ}
use Rattle.shard.specs.declared.head_indexes.TheConstants.{AWAY, FEWEST}

-- the serial of the first span that has an entry, and the entries, by serial from there on
pub record HeadWindow : Type 0 where
  pub base : ℕ
  pub entries : List ℕ

-- the window of these entries from the base on
abbrev pub window_at : ℕ → List ℕ → HeadWindow
window_at base entries = record { base = base; entries = entries }

-- a window is stored as the pair of its fields
abbrev pub window_code : Coded HeadWindow
window_code = code_by (ℕ × List ℕ) (coded× coded_ℕ (coded_list coded_ℕ)) (λ w. (w.base, w.entries))
    (λ p. record { base = p.0; entries = p.1 }) (λ _. refl)

-- the entry of a serial that is not below the base
abbrev pub entry_of : HeadWindow → ℕ → Option ℕ
entry_of window serial = slice_get window.entries (serial - window.base)

-- the same as a number: past all entries, that a span is away
abbrev pub note_in : HeadWindow → ℕ → ℕ
note_in window serial = get_or window.entries (serial - window.base) AWAY

-- the note of the serial stays
abbrev pub KeepsNote : ℕ → (old new : HeadWindow) → Type 0
KeepsNote serial old new = note_in new serial ≡ note_in old serial

-- the first serial past all entries
abbrev pub end_of : HeadWindow → ℕ
end_of window = window.base + length window.entries

-- how many entries are kept at most for the spans that were opened, beside so many groups
abbrev pub most_entries : ℕ → ℕ
most_entries groups = max FEWEST (16 * groups)
