use Rattle.std.proofs.Common.{◌≡◌, ◌<◌, ◌≤◌, length, get_or, sym, ap, refl, ◌∙◌, arith, true, false}
use Rattle.audit.specs.Tables.{place_in}
use Rattle.span.specs.ReceiptLists.{kept_receipts}
use Rattle.span.specs.ReceiptViews.{receipt_viewed}
use Rattle.audit.proofs.Orderly.{too_early, all_passed, changes_after-low, IsInOrderBelow-more, IsLeftBelow-more, IsLeftFrom-all}
use Rattle.audit.proofs.Lists.{read_at}
use Rattle.audit.proofs.order.is_in_order.Goals as goal

pub returns-then-receipt-index-clause-exact : goal.returns-then-receipt-index-clause-exact
returns-then-receipt-index-clause-exact c =
    let call = receipt_viewed c.view_near-receipt.result in
    let at = c.view_near-receipt.ensures in
    let inside : c.place_of-place.result < length c.loop-i.left.items = omega (arith, c.loop-i.left.ok.0, c.loop-i.invariant.len, c.place_of-place.ensures.in_range) in
    let read : c.index.result.now ≡ get_or c.loop-i.left.items c.place_of-place.result 0 = read_at c.loop-i.left.items c.place_of-place.result c.index.result.now 0 inside c.index.ensures in
    let there : c.index.result.now ≡ get_or c.loop-i.left.items (place_in c.args.logs.now call.key.span) 0 = read ∙ ap (λ q. get_or c.loop-i.left.items q 0) c.place_of-place.ensures.place in (
      λ so. absurd cc,
      λ order. absurd (too_early c.args.logs.now
          (kept_receipts c.args.list.now) c.loop-i.i c.loop-i.left.items call c.requires.nothing c.loop-i.invariant.left at
          (omega (arith, c.if-receipt-index.true)) order),
    )

pub loop-i-preserved : goal.loop-i-preserved
loop-i-preserved c =
    let call = receipt_viewed c.view_near-receipt.result in
    let list = kept_receipts c.args.list.now in
    let left = c.loop-i.left.items in
    let at = c.view_near-receipt.ensures in
    let inside : c.place_of-place.result < length left = omega (arith, c.loop-i.left.ok.0, c.loop-i.invariant.len, c.place_of-place.ensures.in_range) in
    let read : c.index.result.now ≡ get_or left c.place_of-place.result 0 = read_at left c.place_of-place.result c.index.result.now 0 inside c.index.ensures in
    let there : c.index.result.now ≡ get_or left (place_in c.args.logs.now call.key.span) 0 = read ∙ ap (λ q. get_or left q 0) c.place_of-place.ensures.place in
    let late : get_or left (place_in c.args.logs.now call.key.span) 0 ≤ call.at = omega (arith, c.if-receipt-index.false) in
    record {
      below = IsInOrderBelow-more c.args.logs.now list c.loop-i.i left call c.loop-i.invariant.left at late c.loop-i.invariant.below
          (λ back. let e : false ≡ true = sym c.if-goes_back.false ∙ c.goes_back.ensures.1 back in cc);
      left = rw c.place_of-place.ensures.place
          (IsLeftBelow-more c.args.logs.now list c.loop-i.i left call c.loop-i.invariant.left at
          (rw (← c.place_of-place.ensures.place) inside) c.changes_after.result c.changes_after.ensures
          (omega (arith, late, changes_after-low call, c.changes_after.ensures)));
      len = c.loop-i.invariant.len;
    }

pub returns-clause-exact : goal.returns-clause-exact
returns-clause-exact c = (
  λ so. all_passed (kept_receipts c.args.list.now) c.loop-i.i c.loop-i.invariant.below (omega (arith, c.loop-i-test.false)),
  λ order. refl,
)

pub returns-clause-left : goal.returns-clause-left
returns-clause-left c so = IsLeftFrom-all c.args.logs.now (kept_receipts c.args.list.now) c.loop-i.i c.loop-i.left.items c.loop-i.invariant.left
