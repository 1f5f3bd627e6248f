use Rattle.thread_runner.proofs.Names.{◌∙◌, ap, refl, slice_get, sym, ltb-true, slice_get_read}
use Rattle.thread_runner.proofs.Places.{slice_get-items}
use Rattle.thread_runner.proofs.layout.Layout.line_after.Goals as goal

pub returns-then-place-end-clause-place : goal.returns-then-place-end-clause-place
returns-then-place-end-clause-place c lines laid =
    let found = rw c.deref.ensures.value at c.in_ok-get.ensures.lookup in
    let here = slice_get-items c.args.self.now.places.items c.args.thread c.in_ok-get.field-0.now (ltb-true _ _ (sym found.0)) found.1 in
    let next = rw c.deref-2.ensures.value at c.in_ok-place.ensures.lookup in
    let there = slice_get_read c.in_ok-get.field-0.now.items _ c.args.done c.in_ok-place.field-0.now refl (ltb-true _ _ (sym next.0)) next.1 in
    ap (λ places. slice_get places c.args.done) (sym (laid c.args.thread c.in_ok-get.field-0.now.items here)) ∙ there
