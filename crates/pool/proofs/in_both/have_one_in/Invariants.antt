use Rattle.std.proofs.Common.{◌≡◌, ◌<◌, ℕ, Some, slice_get}
use Rattle.groups.specs.Group.{spans_of}
use Rattle.pool.specs.Handover.{HasAnyIn}
use Rattle.pool.specs.State.{PooledState}
use Rattle.pool.proofs.in_both.have_one_in.Given as goal

abbrev pub invariant-loop-index : goal.invariant-loop-index
invariant-loop-index g l = (other : ℕ) (group : PooledState) → other < l.index → slice_get l.groups other ≡ Some group → HasAnyIn l.shard.groups (spans_of group) → ⊥
