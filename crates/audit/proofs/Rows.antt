-- Rows of sections: what is told is set in both lists, and a full row has all of its sections.
use Rattle.std.proofs.lemmas.Grind.{common_steps}
use Rattle.std.proofs.Common.{zero, suc, ◌≡◌, ℕ, ◌<◌, Bool, true, false, if◌then◌else◌, List, [], ◌∷◌, map, length, replicate, set, get_or, Option, Some, None, ap, refl, arith}
use Rattle.audit.specs.declared.row.Row.{Row}
use Rattle.audit.specs.Tables.{AreFull, IsFull, filled_row, told_sections}

pub length-told_sections : (sections : List ℕ) (told : List Bool) → length told ≡ length sections → length (told_sections sections told) ≡ length sections
length-told_sections [] [] same = refl
length-told_sections (s ∷ sections) (b ∷ told) same = ap suc (length-told_sections sections told (omega (arith, same)))
length-told_sections sections told same = absurd cc

pub no_section_at : (sections : List ℕ) (told : List Bool) (at : ℕ) → get_or told at false ≡ false → get_or (told_sections sections told) at None ≡ None
no_section_at (s ∷ sections) (b ∷ told) zero is = ap (λ b. if b then Some s else None) is
no_section_at (s ∷ sections) (b ∷ told) (suc at) is = no_section_at sections told at is
no_section_at sections told at is = refl

pub has_section_at : (sections : List ℕ) (told : List Bool) (at : ℕ) → length told ≡ length sections → get_or told at false ≡ true
    → (s : ℕ) × (get_or (told_sections sections told) at None ≡ Some s)
has_section_at (s ∷ sections) (b ∷ told) zero same is = (s, ap (λ b. if b then Some s else None) is)
has_section_at (s ∷ sections) (b ∷ told) (suc at) same is = has_section_at sections told at (omega (arith, same)) is
has_section_at sections [] at same is = absurd cc
has_section_at [] (b ∷ told) at same is = absurd cc

pub told_sections-set : (sections : List ℕ) (told : List Bool) (at section : ℕ) → length told ≡ length sections
    → told_sections (set sections at section) (set told at true) ≡ set (told_sections sections told) at (Some section)
told_sections-set [] (b ∷ told) at section same = absurd cc
told_sections-set (s ∷ sections) [] at section same = absurd cc
told_sections-set (s ∷ sections) (b ∷ told) (suc at) section same = ap (λ l. (if b then Some s else None) ∷ l) (told_sections-set sections told at section (omega (arith, same)))
told_sections-set sections told at section same = refl

-- a row that is full has all of its sections
all_told : (sections : List ℕ) (told : List Bool) → length told ≡ length sections → IsFull (told_sections sections told) → map Some sections ≡ told_sections sections told
all_told [] [] same full = refl
all_told (s ∷ sections) (true ∷ told) same full = ap (λ l. Some s ∷ l) (all_told sections told (omega (arith, same)) (λ at less none. full (suc at) (omega arith) none))
all_told (s ∷ sections) (false ∷ told) same full = absurd (full 0 (omega arith) refl)
all_told sections told same full = absurd cc

pub all_full : (rows : List Row) → AreFull (map filled_row rows) → map (λ (row : Row). map Some row.sections.items) rows ≡ map filled_row rows
all_full [] full = refl
all_full (row ∷ rows) full = λ i. all_told row.sections.items row.told.items row.same_len (full 0 (filled_row row) refl) i
    ∷ all_full rows (λ j other at. full (suc j) other at) i

-- a full row has a section at each place
pub section_in : (row : List (Option ℕ)) (at : ℕ) → at < length row → IsFull row → (s : ℕ) × (get_or row at None ≡ Some s)
section_in row at inside full = some_of (get_or row at None) (full at inside)
  where
    some_of : (found : Option ℕ) → (found ≡ None → ⊥) → (s : ℕ) × (found ≡ Some s)
    some_of None none = absurd (none refl)
    some_of (Some s) none = (s, refl)

-- at first nothing is told
pub get_or-none_told : (told : List Bool) (n at : ℕ) → told ≡ replicate n false → get_or told at false ≡ false
get_or-none_told told n at is = grind (arith, common_steps)

-- sections that are all the same
pub all_same : (sections : List ℕ) (section : ℕ) → ((k : ℕ) → k < length sections → get_or sections k section ≡ section) → sections ≡ replicate (length sections) section
all_same [] section each = refl
all_same (s ∷ sections) section each = λ i. each 0 (omega arith) i ∷ all_same sections section (λ k less. each (suc k) (omega arith)) i

pub get_or-same : (n at section : ℕ) → at < n → Some section ≡ get_or (map Some (replicate n section)) at None
get_or-same zero at section less = absurd (omega arith)
get_or-same (suc n) zero section less = refl
get_or-same (suc n) (suc at) section less = get_or-same n at section (omega arith)
