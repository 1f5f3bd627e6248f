use Rattle.std.proofs.Common.{◌≡◌, ◌∙◌, map, sym, subst, refl, true, false}
use Rattle.span.specs.ReceiptLists.{kept_receipts}
use Rattle.audit.specs.Agreement.{IsInOrder}
use Rattle.audit.specs.Order.{LeaveNothing}
use Rattle.audit.proofs.Orderly.{LeaveNothing-all}
use Rattle.audit.proofs.Lists.{list_at, lists_more, lists_all}
use Rattle.audit.proofs.order.workers_are_in_order.Goals as goal

pub is_in_order-requires-clause-nothing : goal.is_in_order-requires-clause-nothing
is_in_order-requires-clause-nothing c =
    subst (LeaveNothing c.args.logs.now) (list_at kept_receipts IsInOrder c.args.lists.now c.loop-list.list-index c.list-item.result c.loop-list-test.true c.list-item.is)
    (LeaveNothing-all c.args.logs.now (map kept_receipts c.args.lists.now) c.requires.changes c.requires.replies c.loop-list.list-index)

pub returns-then-not-is_in_order : goal.returns-then-not-is_in_order
returns-then-not-is_in_order c = (
  λ so. absurd cc,
  λ order.
      let here : IsInOrder (kept_receipts c.list-item.result) = subst IsInOrder
      (list_at kept_receipts IsInOrder c.args.lists.now c.loop-list.list-index c.list-item.result c.loop-list-test.true c.list-item.is)
      (order c.loop-list.list-index) in
      let e : false ≡ true = sym c.if-not-is_in_order.true ∙ c.is_in_order.ensures.exact.1 here in
      absurd cc,
)

pub loop-list-preserved : goal.loop-list-preserved
loop-list-preserved c = record {
  below = lists_more kept_receipts IsInOrder c.args.lists.now c.loop-list.list-index c.list-item.result c.loop-list-test.true c.list-item.is c.loop-list.invariant.below
      (c.is_in_order.ensures.exact.0 c.if-not-is_in_order.false);
  clear = c.clear.ensures.clear;
  len = c.clear.ensures.len;
}

pub returns : goal.returns
returns c = (
  λ so. lists_all kept_receipts IsInOrder c.args.lists.now c.loop-list.list-index c.loop-list.invariant.below c.loop-list-test.false (λ i j a b at_i at_j less. absurd cc),
  λ order. refl,
)
