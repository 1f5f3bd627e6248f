use Rattle.std.proofs.Common.{arith}
use Rattle.span.specs.ReceiptLists.{kept_receipts}
use Rattle.span.specs.ReceiptViews.{receipt_viewed}
use Rattle.audit.proofs.Orderly.{IsLeftFrom-more, IsClear-all}
use Rattle.audit.proofs.order.clear.Goals as goal

pub loop-i-preserved : goal.loop-i-preserved
loop-i-preserved c =
    let call = receipt_viewed c.view_near.result in
    let place = c.place_of-place.ensures.place in
    record {
      left = rw place (IsLeftFrom-more c.args.logs.now
          (kept_receipts c.args.list.now) c.loop-i.i c.loop-i.left.items call c.loop-i.invariant.left c.view_near.ensures
          (omega (arith, place, c.loop-i.left.ok.0, c.loop-i.invariant.len, c.place_of-place.ensures.in_range)));
      len = c.loop-i.invariant.len;
    }

pub returns-clause-clear : goal.returns-clause-clear
returns-clause-clear c = IsClear-all c.args.logs.now (kept_receipts c.args.list.now) c.loop-i.i c.loop-i.left.items c.loop-i.invariant.left (omega (arith, c.loop-i-test.false))
