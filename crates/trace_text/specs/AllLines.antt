-- The lines below a header, and which of them are kept.
use Rattle.std.specs.Prelude.{◌≡◌, ◌<◌, ◌==◌, ℕ, Bool, List, Some, map, slice_get}
use Rattle.std.specs.List.{find, range_with_len}
use Rattle.std.specs.Option.{option_map_or}
use Rattle.trace_text.specs.declared.line.Line.{Line}
use Rattle.trace_text.specs.declared.line.Line.TheVariants.{Silent}
use Rattle.trace_text.specs.declared.line_list.KeptLine.{KeptLine}

-- all lines, and of each the place of the first key that it reads
pub record AllLines : Type 0 where
  pub items : List Line
  pub places : List ℕ

-- the line is kept for that place
abbrev pub is_at : ℕ → KeptLine → Bool
is_at place one = one.place == place

-- the line at that place: what is kept for it, and else one that says nothing
abbrev pub line_kept : List KeptLine → ℕ → Line
line_kept kept place = option_map_or (λ (one : KeptLine). one.line) (find (is_at place) kept) Silent

-- the place of the first key that it reads
abbrev pub place_kept : List KeptLine → ℕ → ℕ
place_kept kept place = option_map_or (λ (one : KeptLine). one.reads) (find (is_at place) kept) 0

-- that many lines
abbrev pub lines_kept : List KeptLine → ℕ → AllLines
lines_kept kept count = record {
  items = map (line_kept kept) (range_with_len 0 count);
  places = map (place_kept kept) (range_with_len 0 count);
}

-- the lines are kept by place, each for another one, of that many
pub record AreInOrder (kept : List KeptLine) (count : ℕ) : Type 0 where
  pub ascend : (low high : ℕ) (a b : KeptLine) → low < high → slice_get kept low ≡ Some a
      → slice_get kept high ≡ Some b → a.place < b.place
  pub below : (n : ℕ) (a : KeptLine) → slice_get kept n ≡ Some a → a.place < count
