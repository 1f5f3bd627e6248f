use Rattle.std.proofs.Common.{◌≡◌, ◌∙◌, true, false, sym, subst, refl, map}
use Rattle.span.specs.ReceiptLists.{kept_receipts}
use Rattle.audit.specs.Tables.{StandsBetween, full_row}
use Rattle.audit.proofs.Lists.{AllOf, list_at, lists_more, lists_all}
use Rattle.audit.proofs.Between.{between_all, sections_all}
use Rattle.audit.proofs.barrier.sections_are_in_order.Goals as goal

pub returns-then-not-stand_between : goal.returns-then-not-stand_between
returns-then-not-stand_between c = (
  λ so. absurd cc,
  λ all.
      let each = between_all kept_receipts c.args.lists.now c.args.logs.now (map full_row c.args.rows.now) c.requires.entered c.requires.full all in
      let here : AllOf (StandsBetween c.args.logs.now (map full_row c.args.rows.now)) (kept_receipts c.list-item.result) = subst
      (AllOf (StandsBetween c.args.logs.now (map full_row c.args.rows.now)))
      (list_at kept_receipts (AllOf (StandsBetween c.args.logs.now (map full_row c.args.rows.now))) c.args.lists.now c.loop-list.list-index
      c.list-item.result c.loop-list-test.true c.list-item.is) (each c.loop-list.list-index) in
      let e : false ≡ true = sym c.if-not-stand_between.true ∙ c.stand_between.ensures.1 here in
      absurd cc,
)

pub loop-list-preserved : goal.loop-list-preserved
loop-list-preserved c = lists_more kept_receipts
    (AllOf (StandsBetween c.args.logs.now (map full_row c.args.rows.now))) c.args.lists.now c.loop-list.list-index c.list-item.result c.loop-list-test.true
    c.list-item.is c.loop-list.invariant
    (c.stand_between.ensures.0 c.if-not-stand_between.false)

pub returns : goal.returns
returns c = (
  λ so. sections_all kept_receipts c.args.lists.now c.args.logs.now (map full_row c.args.rows.now) c.requires.entered c.requires.full c.requires.replies
      (lists_all kept_receipts (AllOf (StandsBetween c.args.logs.now (map full_row c.args.rows.now))) c.args.lists.now c.loop-list.list-index
      c.loop-list.invariant c.loop-list-test.false (λ i r at. absurd cc)),
  λ all. refl,
)
