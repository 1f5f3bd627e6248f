-- What a fold does in the pool and in all shards, which are lent. No public clause cites this
-- module.
use Rattle.std.specs.Prelude.{◌≡◌, ◌⊎◌, ℕ, All, List, Option, Some, slice_get, slice_set}
use Rattle.fold.specs.Folds.{MayFold, Steps}
use Rattle.fold.specs.declared.step.Step.{Step}
use Rattle.fold.specs.declared.step.Step.TheVariants.{Absent}
use Rattle.pool.specs.State.{PoolState}
use Rattle.shard.specs.State.{ShardState}
use Rattle.span.specs.declared.id.SpanId.{SpanId}
use Rattle.arena.specs.Locked.{HasGroup}

-- none of the shards has the span
abbrev pub HasNoGroup : SpanId → List (Option ShardState) → Type 0
HasNoGroup id shards = All (λ shard. HasGroup id shard → ⊥) shards

-- the shard of this number is lent, and has the span
abbrev pub HasItAt : List (Option ShardState) → SpanId → ℕ → ShardState → Type 0
HasItAt shards id number shard = (slice_get shards number ≡ Some (Some shard))
    × HasGroup id (Some shard)

-- the step is one of the pool and of some shard; of which shard stays open
abbrev pub StepsSomewhere : PoolState → SpanId → SpanId → Step → PoolState → Type 0
StepsSomewhere pool abandoned owned step pool_new =
    (before : ShardState) × (after : ShardState)
    × Steps pool before abandoned owned step pool_new after

-- the step is that of one shard which has the owned span, and all others stay; or no shard has it,
-- the pair is absent, and all stays
abbrev pub StepsLent : PoolState → List (Option ShardState) → SpanId → SpanId → Step → PoolState
    → List (Option ShardState) → Type 0
StepsLent pool shards abandoned owned step pool_new shards_new =
    ((number : ℕ) × (shard : ShardState) × (after : ShardState)
    × HasItAt shards owned number shard × Steps pool shard abandoned owned step pool_new after
    × (shards_new ≡ slice_set shards number (Some after)))
    ⊎ (HasNoGroup owned shards × (step ≡ Absent) × (pool_new ≡ pool) × (shards_new ≡ shards))

-- only memory stands in the way of the fold, in one shard which has the owned span
abbrev pub MayFoldLent : PoolState → List (Option ShardState) → SpanId → SpanId → Type 0
MayFoldLent pool shards abandoned owned = (number : ℕ) × (shard : ShardState)
    × HasItAt shards owned number shard × MayFold pool shard abandoned owned
