use Rattle.std.proofs.Common.{◌≡◌, ◌<◌, ℕ, Some, slice_get}
use Rattle.shard.specs.Group.{GroupState}
use Rattle.groups.specs.Group.{spans_of}
use Rattle.pool.specs.Calls.{HasAny}
use Rattle.pool.proofs.pool.Pool.has_any_of.Given as goal

abbrev pub invariant-loop-index : goal.invariant-loop-index
invariant-loop-index g l = (other : ℕ) (group : GroupState) → other < l.index → slice_get l.shard.groups other ≡ Some group → HasAny l.self.groups (spans_of group) → ⊥
