use Rattle.std.proofs.Common.{◌-◌, ◌≡◌, ◌≤◌, length}
use Rattle.std.specs.Prelude.{vec_capacity}
use Rattle.shard.specs.Parts.{IsParted}
use Rattle.shard.specs.Row.{IsOrder, in_order}
use Rattle.shard.proofs.group_row.part.Given as goal

abbrev pub invariant-loop-low : goal.invariant-loop-low
invariant-loop-low g l = record {
  bounds : l.low ≤ l.high;
  within : l.high ≤ length l.groups.items;
  order : IsOrder (length l.groups.items) l.order.items;
  same : in_order l.groups.items l.order.items ≡ in_order l.fn.groups.items l.fn.order.items;
  parted : IsParted l.groups.items l.low l.high;
  room : vec_capacity l.groups ≡ vec_capacity l.fn.groups;
  order_room : vec_capacity l.order ≡ vec_capacity l.fn.order;
}

abbrev pub decreases-loop-low : goal.decreases-loop-low
decreases-loop-low g l = l.high - l.low
