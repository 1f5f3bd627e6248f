use Rattle.std.proofs.Common.{◌≡◌, ◌∙◌, true, false, sym, refl, map, arith}
use Rattle.span.specs.ReceiptLists.{kept_receipts}
use Rattle.span.specs.ReceiptViews.{receipt_viewed}
use Rattle.audit.specs.Tables.{StandsBetween, full_row}
use Rattle.audit.proofs.Lists.{each_more, each_all}
use Rattle.audit.proofs.barrier.stand_between.Goals as goal

pub returns-then-not-stands_between : goal.returns-then-not-stands_between
returns-then-not-stands_between c = (
  λ so. absurd cc,
  λ all.
      let e : false ≡ true = sym c.if-not-stands_between.true ∙ c.stands_between.ensures.1 (all c.loop-i.i (receipt_viewed c.view_near.result) c.view_near.ensures) in
      absurd cc,
)

pub loop-i-preserved : goal.loop-i-preserved
loop-i-preserved c = each_more (StandsBetween c.args.logs.now (map full_row c.args.rows.now)) (kept_receipts c.args.list.now) c.loop-i.i
    (receipt_viewed c.view_near.result) c.loop-i.invariant c.view_near.ensures
    (c.stands_between.ensures.0 c.if-not-stands_between.false)

pub returns : goal.returns
returns c = (
  λ so. each_all (StandsBetween c.args.logs.now (map full_row c.args.rows.now)) (kept_receipts c.args.list.now) c.loop-i.i c.loop-i.invariant (omega (arith, c.loop-i-test.false)),
  λ right. refl,
)
