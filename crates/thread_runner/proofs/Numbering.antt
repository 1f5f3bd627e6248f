-- How many marks and keys stand above a line.
use Rattle.thread_runner.proofs.Names.{◌≡◌, ◌∙◌, ◌+◌, ◌≤◌, ℕ, true, false, List, Some, ap, arith, inl, inr, refl, slice_get, take, eqb_tells, take_more, keys_at, keys_in, marks, marks_at, Line, is_mark}
use Rattle.trace_text.proofs.Knowing.{keys_in-push, marks-push}
use Rattle.trace_text.specs.declared.line.Line.TheVariants as line

-- one line more
pub keys_in-next : (lines : List Line) (place : ℕ) (l : Line) → slice_get lines place ≡ Some l → keys_in (take (place + 1) lines) ≡ keys_in (take place lines) + keys_at l
keys_in-next lines place l here = ap keys_in (take_more lines place l here) ∙ keys_in-push (take place lines) l

marks-next : (lines : List Line) (place : ℕ) (l : Line) → slice_get lines place ≡ Some l → marks (take (place + 1) lines) ≡ marks (take place lines) + marks_at l
marks-next lines place l here = ap marks (take_more lines place l here) ∙ marks-push (take place lines) l

marks_at-mark : (l : Line) → is_mark l ≡ true → marks_at l ≡ 1
marks_at-mark line.Mark is = refl
marks_at-mark l is = absurd cc

marks_at-other : (l : Line) → is_mark l ≡ false → marks_at l ≡ 0
marks_at-other line.Mark is = absurd cc
marks_at-other l is = refl

-- from one place up to the other as many marks stand above each
abbrev pub IsOneSection : List Line → (from place section : ℕ) → Type 0
IsOneSection lines from place section = (at : ℕ) → from ≤ at → at ≤ place → marks (take at lines) ≡ section

-- the next section begins below a mark
pub IsOneSection-mark : (lines : List Line) (from place section : ℕ) (l : Line) → slice_get lines place ≡ Some l → is_mark l ≡ true → from ≤ place → IsOneSection lines from place section
    → IsOneSection lines (place + 1) (place + 1) (section + 1)
IsOneSection-mark lines from place section l here is within one at above below =
    let same : at ≡ place + 1 = omega (arith, above, below) in
    ap (λ n. marks (take n lines)) same ∙ marks-next lines place l here ∙ omega (arith, marks_at-mark l is, one place within (omega arith))

-- and goes on below other lines
pub IsOneSection-other : (lines : List Line) (from place section : ℕ) (l : Line) → slice_get lines place ≡ Some l → is_mark l ≡ false → from ≤ place → IsOneSection lines from place section
    → IsOneSection lines from (place + 1) section
IsOneSection-other lines from place section l here is within one at above below = elim (eqb_tells at (place + 1)) [
  | inl (passes, same) ↦ ap (λ n. marks (take n lines)) same ∙ marks-next lines place l here ∙ omega (arith, marks_at-other l is, one place within (omega arith))
  | inr (fails, differ) ↦ one at above (omega arith)
]
