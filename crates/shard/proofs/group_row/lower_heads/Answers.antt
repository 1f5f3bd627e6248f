use Rattle.std.proofs.Common.{◌∙◌, ◌<◌, ◌≤◌, ◌+◌, ◌-◌, ◌/◌, ℕ, ap, arith, length}
use Rattle.std.proofs.lemmas.Option.{slice_get-get_or, slice_get_within}
use Rattle.span.specs.Ids.{rank}
use Rattle.shard.specs.Row.{in_order}
use Rattle.shard.proofs.HeadOrder.{lower_more, others_more}
use Rattle.shard.proofs.Orders.{below_count, element_at, length_order}
use Rattle.shard.proofs.group_row.lower_heads.Goals as goal

pub loop-low-init : goal.loop-low-init
loop-low-init g c = record {
  bounds = omega arith;
  within = omega arith;
  lower = λ other group below here. absurd (omega arith);
  others = λ other group above here. absurd (let low = slice_get_within _ other group here in omega (arith, low, length_order c.args.groups.now c.args.order.now c.requires.order));
}

pub bounds-groups-place : goal.bounds-groups-place
bounds-groups-place g c =
    let middle : ℕ = c.loop-low.low + (c.loop-low.high - c.loop-low.low) / 2 in
    below_count (length c.args.groups.now) c.args.order.now c.requires.order middle _
    (slice_get-get_or c.args.order.now middle 0 (omega (arith, c.loop-low.invariant.within, c.loop-low-test.true)))

pub offset_bounds-groups-place : goal.offset_bounds-groups-place
offset_bounds-groups-place g c = let low = bounds-groups-place g c in omega (arith, low)

pub loop-low-preserved-then-rank : goal.loop-low-preserved-then-rank
loop-low-preserved-then-rank g c =
    let middle : ℕ = c.loop-low.low + (c.loop-low.high - c.loop-low.low) / 2 in
    let group = c.index-groups-place.result in
    let here = element_at c.args.groups.now c.args.order.now c.requires.order middle (omega (arith, c.loop-low.invariant.within, c.loop-low-test.true)) group c.index-groups-place.is in
    let less : rank group.head.id < rank c.args.id =
    omega (arith, c.rank.ensures.value ∙ ap rank c.head_id.ensures, c.rank-in-loop-low.ensures.value, c.if-rank.true) in
    record {
      bounds = omega (arith, c.loop-low-test.true);
      within = c.loop-low.invariant.within;
      lower = lower_more (in_order c.args.groups.now c.args.order.now) c.requires.ascend c.args.id middle group here less;
      others = c.loop-low.invariant.others;
    }

pub loop-low-preserved : goal.loop-low-preserved
loop-low-preserved g c =
    let middle : ℕ = c.loop-low.low + (c.loop-low.high - c.loop-low.low) / 2 in
    let group = c.index-groups-place.result in
    let here = element_at c.args.groups.now c.args.order.now c.requires.order middle (omega (arith, c.loop-low.invariant.within, c.loop-low-test.true)) group c.index-groups-place.is in
    let more : rank c.args.id ≤ rank group.head.id =
    omega (arith, c.rank.ensures.value ∙ ap rank c.head_id.ensures, c.rank-in-loop-low.ensures.value, c.if-rank.false) in
    record {
      bounds = omega (arith, c.loop-low-test.true);
      within = omega (arith, c.loop-low.invariant.within, c.loop-low-test.true);
      lower = c.loop-low.invariant.lower;
      others = others_more (in_order c.args.groups.now c.args.order.now) c.requires.ascend c.args.id middle group here more;
    }

pub returns-clause-others : goal.returns-clause-others
returns-clause-others g c other group above here = c.loop-low.invariant.others other group (omega (arith, c.loop-low-test.false, above)) here
