use Rattle.std.proofs.Common.{◌≡◌, ◌∙◌, true, false, sym, subst, refl}
use Rattle.span.specs.ReceiptLists.{kept_receipts}
use Rattle.audit.specs.Agreement.{IsRightReply}
use Rattle.audit.proofs.Lists.{AllOf, list_at, lists_more, lists_all}
use Rattle.audit.proofs.reply.lists_are_right.Goals as goal

pub returns-then-not-list_is_right : goal.returns-then-not-list_is_right
returns-then-not-list_is_right c = (
  λ so. absurd cc,
  λ all.
      let each = all in
      let here : AllOf (IsRightReply c.args.logs.now) (kept_receipts c.list-item.result) = subst (AllOf (IsRightReply c.args.logs.now))
      (list_at kept_receipts (AllOf (IsRightReply c.args.logs.now)) c.args.lists.now c.loop-list.list-index c.list-item.result c.loop-list-test.true
      c.list-item.is) (each c.loop-list.list-index) in
      let e : false ≡ true = sym c.if-not-list_is_right.true ∙ c.list_is_right.ensures.1 here in
      absurd cc,
)

pub loop-list-preserved : goal.loop-list-preserved
loop-list-preserved c = lists_more kept_receipts
    (AllOf (IsRightReply c.args.logs.now)) c.args.lists.now c.loop-list.list-index c.list-item.result c.loop-list-test.true c.list-item.is c.loop-list.invariant
    (c.list_is_right.ensures.0 c.if-not-list_is_right.false)

pub returns : goal.returns
returns c = (
  λ so. (lists_all kept_receipts (AllOf (IsRightReply c.args.logs.now)) c.args.lists.now c.loop-list.list-index c.loop-list.invariant c.loop-list-test.false (λ i r at. absurd cc)),
  λ all. refl,
)
