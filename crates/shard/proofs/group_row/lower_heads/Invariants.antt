use Rattle.std.proofs.Common.{◌-◌, ◌≡◌, ◌<◌, ◌≤◌, ℕ, Some, length, slice_get}
use Rattle.shard.specs.Group.{GroupState}
use Rattle.shard.specs.Row.{in_order}
use Rattle.span.specs.Ids.{rank}
use Rattle.shard.proofs.group_row.lower_heads.Given as goal

abbrev pub invariant-loop-low : goal.invariant-loop-low
invariant-loop-low g l = record {
  bounds : l.low ≤ l.high;
  within : l.high ≤ length l.order;
  lower : (other : ℕ) (group : GroupState) → other < l.low → slice_get (in_order l.groups l.order) other ≡ Some group → rank group.head.id < rank l.id;
  others : (other : ℕ) (group : GroupState) → l.high ≤ other → slice_get (in_order l.groups l.order) other ≡ Some group → rank l.id ≤ rank group.head.id;
}

abbrev pub decreases-loop-low : goal.decreases-loop-low
decreases-loop-low g l = l.high - l.low
