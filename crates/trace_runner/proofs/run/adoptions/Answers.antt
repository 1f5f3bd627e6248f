use Rattle.trace_runner.proofs.Names.{◌≡◌, ◌∙◌, ◌+◌, ◌≤◌, ℕ, Bool, true, false, List, ◌∷◌, [], Some, not, ap, arith, refl, filter, length, length-append, slice_get, take, if◌then◌else◌, length-take-le, take_all, filter-append, is_adopt, Line}
use Rattle.std.proofs.lemmas.List.Filters.{length-filter_both}
use Rattle.trace_runner.proofs.Recalling.{take_line}
use Rattle.trace_runner.proofs.run.adoptions.Goals as goal

few : (lines : List Line) (index : ℕ) → index ≤ length lines → length (filter is_adopt (take index lines)) ≤ index
few lines index within = omega (arith, length-filter_both is_adopt (λ l. not (is_adopt l)) (λ l. refl) (take index lines), length-take-le index lines within)

one : (line : Line) → length (filter is_adopt (line ∷ [])) ≡ (if is_adopt line then 1 else 0)
one line = either (is_adopt line) refl where
  either : (is : Bool) → is_adopt line ≡ is → length (filter is_adopt (line ∷ [])) ≡ (if is then 1 else 0)
  either true e = rw e refl
  either false e = rw e refl

next : (lines : List Line) (place : ℕ) (line : Line) → slice_get lines place ≡ Some line
    → length (filter is_adopt (take (place + 1) lines)) ≡ length (filter is_adopt (take place lines)) + (if is_adopt line then 1 else 0)
next lines place line here =
    ap (λ ls. length (filter is_adopt ls)) (take_line lines place line here).0 ∙ ap length (filter-append is_adopt (take place lines) (line ∷ []))
    ∙ omega (arith, length-append (filter is_adopt (take place lines)) (filter is_adopt (line ∷ [])), one line)

at_most_one : (is : Bool) → (if is then 1 else 0) ≤ 1
at_most_one true = omega arith
at_most_one false = omega arith

pub overflow_add-count : goal.overflow_add-count
overflow_add-count c = omega (
  arith,
  c.loop-place.invariant,
  c.adoptions_by-count.ensures,
  at_most_one (is_adopt c.line_at.result.now),
  few c.args.lines.now.items c.loop-place.place (omega (arith, c.len-place-end.ensures.len)),
  c.len-place-end.ensures.few,
)

pub loop-place-preserved : goal.loop-place-preserved
loop-place-preserved c = omega (arith, c.loop-place.invariant, c.adoptions_by-count.ensures, next c.args.lines.now.items c.loop-place.place c.line_at.result.now c.line_at.ensures)

pub returns : goal.returns
returns c =
    let lines = c.args.lines.now.items in
    let all : c.loop-place.place ≡ length lines = omega (arith, c.len-place-end.ensures.len) in
    c.loop-place.invariant ∙ ap (λ n. length (filter is_adopt (take n lines))) all ∙ ap (λ ls. length (filter is_adopt ls)) (take_all (length lines) lines (omega arith))
