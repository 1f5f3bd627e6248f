use Rattle.std.proofs.Common.{◌≡◌, ◌-◌, ◌<◌, ◌≤◌, ℕ, Some, false, slice_get}
use Rattle.shard.specs.Group.{GroupState}
use Rattle.shard.proofs.shard.folds.any_closed.Given as goal

abbrev pub invariant-loop-at : goal.invariant-loop-at
invariant-loop-at g l = record {
  within : l.at ≤ l.count;
  opened : (at : ℕ) (group : GroupState) → at < l.at → slice_get l.groups.items at ≡ Some group → group.closed ≡ false;
}

abbrev pub decreases-loop-at : goal.decreases-loop-at
decreases-loop-at g l = l.count - l.at
