use Rattle.trace_text.proofs.Names.{◌≡◌, refl, ◌∙◌, Some, slice_get, sym, ap, slice_get_read, KeptLine}
use Rattle.trace_text.proofs.Keeping.{find-kept}
use Rattle.trace_text.proofs.line_list.kept_there.Goals as goal

pub returns-then-one-place-clause-some : goal.returns-then-one-place-clause-some
returns-then-one-place-clause-some c = λ count order.
    find-kept c.args.kept.now count c.args.index c.args.place c.index-kept-index.result order
    (slice_get_read c.args.kept.now _ c.args.index c.index-kept-index.result refl c.if-index-kept.false c.index-kept-index.is) c.if-one-place.true

pub returns-else-one-place-clause-none : goal.returns-else-one-place-clause-none
returns-else-one-place-clause-none c = λ one there same.
    let here : slice_get c.args.kept.now c.args.index
    ≡ Some c.index-kept-index.result = slice_get_read c.args.kept.now _ c.args.index c.index-kept-index.result refl c.if-index-kept.false
    c.index-kept-index.is in
    let is : Some one ≡ Some c.index-kept-index.result = sym there ∙ here in
    c.if-one-place.false (ap (λ (k : KeptLine). k.place) (sym (some_is is)) ∙ same) where
      some_is : {X : Type 0} {x y : X} → Some x ≡ Some y → x ≡ y
      some_is e = cc
