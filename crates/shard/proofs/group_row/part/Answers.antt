use Rattle.std.proofs.Common.{◌≡◌, ◌∙◌, ◌-◌, Some, ap, arith, length, refl, slice_get, subst, sym}
use Rattle.std.proofs.lemmas.Option.{slice_get_read}
use Rattle.groups.specs.Group.{Ascend}
use Rattle.shard.proofs.Orders.{length_swapped}
use Rattle.shard.proofs.Parts.{IsParted-left, IsParted-stayed}
use Rattle.shard.proofs.group_row.part.Goals as goal

pub exchange_places-requires-clause-ascend : goal.exchange_places-requires-clause-ascend
exchange_places-requires-clause-ascend g c = subst Ascend (sym c.loop-low.invariant.same) c.requires.ascend

pub loop-low-preserved-then-has_left : goal.loop-low-preserved-then-has_left
loop-low-preserved-then-has_left g c =
    let groups = c.loop-low.groups.items in
    let low = c.loop-low.low in
    let high = c.loop-low.high in
    let here : slice_get groups low ≡ Some c.index.result.now =
    slice_get_read groups _ low c.index.result.now refl (omega (arith, c.loop-low.invariant.within, c.loop-low-test.true)) c.index.ensures in
    record {
      bounds = omega (arith, c.loop-low-test.true);
      within = omega (arith, c.loop-low.invariant.within, ap length c.exchange_places.ensures.groups, length_swapped groups low (high - 1));
      order = c.exchange_places.ensures.order;
      same = c.exchange_places.ensures.same ∙ c.loop-low.invariant.same;
      parted = rw c.exchange_places.ensures.groups
          (IsParted-left groups low high c.loop-low.invariant.parted c.index.result.now here (sym c.has_left.ensures ∙ c.if-has_left.true) (high - 1)
          (omega (arith, c.loop-low-test.true)) (omega (arith, c.loop-low-test.true)) c.loop-low.invariant.within);
      room = c.exchange_places.ensures.room ∙ c.loop-low.invariant.room;
      order_room = c.exchange_places.ensures.order_room ∙ c.loop-low.invariant.order_room;
    }

pub loop-low-preserved : goal.loop-low-preserved
loop-low-preserved g c =
    let groups = c.loop-low.groups.items in
    let low = c.loop-low.low in
    let here : slice_get groups low ≡ Some c.index.result.now =
    slice_get_read groups _ low c.index.result.now refl (omega (arith, c.loop-low.invariant.within, c.loop-low-test.true)) c.index.ensures in
    record {
      bounds = omega (arith, c.loop-low-test.true);
      within = c.loop-low.invariant.within;
      order = c.loop-low.invariant.order;
      same = c.loop-low.invariant.same;
      parted = IsParted-stayed groups low c.loop-low.high c.loop-low.invariant.parted c.index.result.now here (sym c.has_left.ensures ∙ c.if-has_left.false);
      room = c.loop-low.invariant.room;
      order_room = c.loop-low.invariant.order_room;
    }
