use Rattle.std.proofs.Common.{◌≡◌, ◌∙◌, ◌<◌, ◌≤◌, List, Bool, Some, None, false, get_or, length, sym, ap, subst, refl, arith, rules}
use Rattle.std.proofs.lemmas.Bool.{cases_lt}
use Rattle.audit.proofs.Rows.{length-told_sections, has_section_at, no_section_at}
use Rattle.audit.proofs.section.is_full.Goals as goal

pub returns-then-not-told : goal.returns-then-not-told
returns-then-not-told c =
    let row = c.args.row.now in
    let at = c.loop-told.told-index in
    let value = c.deref-told-items.ensures.value in
    let inside : at < length row.told.items = subst (λ (l : List Bool). at < length l) value c.loop-told-test.true in
    let long = length-told_sections row.sections.items row.told.items row.same_len in (
      λ so. absurd cc,
      λ full. absurd (full at (omega (arith, long, row.same_len, inside))
          (no_section_at row.sections.items row.told.items at (ap (λ l. get_or l at false) (sym value) ∙ c.if-not-told.true))),
    )

pub loop-told-preserved : goal.loop-told-preserved
loop-told-preserved c k fits = search (rules, cases_lt)

pub returns : goal.returns
returns c =
    let row = c.args.row.now in
    let past = subst (λ (l : List Bool). length l ≤ c.loop-told.told-index) c.deref-told-items.ensures.value c.loop-told-test.false in
    let long = length-told_sections row.sections.items row.told.items row.same_len in (
      λ so at inside none.
          let there = has_section_at row.sections.items row.told.items at row.same_len (c.loop-told.invariant at (omega (arith, long, row.same_len, inside, past))) in
          let e : Some there.0 ≡ None = sym there.1 ∙ none in
          cc,
      λ full. refl,
    )
