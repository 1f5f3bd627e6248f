use Rattle.std.proofs.Common.{◌≡◌, ◌∙◌, Some, ap, arith, length, refl, slice_get, subst, sym}
use Rattle.std.proofs.lemmas.Option.{slice_get_read, slice_get_within}
use Rattle.groups.specs.Group.{Ascend}
use Rattle.shard.proofs.Orders.{in_order-lined_up, length_swapped, own_next, own_swap}
use Rattle.shard.proofs.group_row.line_up.Goals as goal

pub loop-index-preserved-then-place-index : goal.loop-index-preserved-then-place-index
loop-index-preserved-then-place-index g c =
    let order = c.loop-index.order.items in
    let index = c.loop-index.index in
    let here : slice_get order index ≡ Some c.index.result.now =
    slice_get_read order _ index c.index.result.now refl (omega (arith, c.loop-index-test.true, c.len-index-end.ensures, c.loop-index.invariant.many, c.args.order.now.ok.0)) c.index.ensures in
    record {
      order = c.loop-index.invariant.order;
      same = c.loop-index.invariant.same;
      many = c.loop-index.invariant.many;
      own = own_next order index c.loop-index.invariant.own (here ∙ ap Some c.if-place-index.true);
    }

pub index_of-other-requires-clause-ascend : goal.index_of-other-requires-clause-ascend
index_of-other-requires-clause-ascend g c =
    rw (c.as_slice.ensures.value, c.as_slice-in-loop-index.ensures.value) (subst Ascend (sym c.loop-index.invariant.same) c.requires.ascend)

pub exchange-requires-clause-second : goal.exchange-requires-clause-second
exchange-requires-clause-second g c =
    slice_get_within c.loop-index.order.items c.index_of-other.result c.loop-index.index
    (ap (λ xs. slice_get xs c.index_of-other.result) (sym c.as_slice-in-loop-index.ensures.value) ∙ c.index_of-other.ensures)

pub loop-index-preserved : goal.loop-index-preserved
loop-index-preserved g c =
    let order = c.loop-index.order.items in
    let index = c.loop-index.index in
    let other = c.index_of-other.result in
    let there : slice_get order other ≡ Some index = ap (λ xs. slice_get xs other) (sym c.as_slice-in-loop-index.ensures.value) ∙ c.index_of-other.ensures in
    record {
      order = c.exchange.ensures.order;
      same = c.exchange.ensures.same ∙ c.loop-index.invariant.same;
      many = ap length c.exchange.ensures.entries ∙ length_swapped order index other ∙ c.loop-index.invariant.many;
      own = rw c.exchange.ensures.entries
          (own_swap order index other (omega (arith, c.loop-index.invariant.many, c.loop-index-test.true, c.len-index-end.ensures, c.args.order.now.ok.0)) there
          c.loop-index.invariant.own);
    }

pub returns : goal.returns
returns g c =
    sym (in_order-lined_up c.loop-index.groups.items c.loop-index.order.items c.loop-index.invariant.order.many
    (λ at place here.
    let low = slice_get_within c.loop-index.order.items at place here in
    c.loop-index.invariant.own at place (omega (arith, low, c.loop-index.invariant.many, c.loop-index-test.false, c.len-index-end.ensures, c.args.order.now.ok.0)) here))
    ∙ c.loop-index.invariant.same
