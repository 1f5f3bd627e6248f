-- What a mark does, and when it is refused.
use Rattle.std.specs.Prelude.{◌≡◌, true, false, List, MatchResult, Result, map}
use Rattle.shard.specs.State.{ShardState}
use Rattle.pool.specs.State.{PoolState}
use Rattle.certificate.specs.declared.certificate.Certificate.{Certificate}
use Rattle.marks.specs.declared.error.MarkError.{MarkError}
use Rattle.marks.specs.declared.error.MarkError.TheVariants.{Doubled, OutOfMemory, PlanOpen, TooMany}
use Rattle.marks.specs.declared.sight.Sight.{Sight}
use Rattle.marks.specs.Closings.{closing}
use Rattle.marks.specs.Seen.{AreDistinct, IsLargest, IsTooMany, with_plan_told}

-- a largest plan of what is in sight is opened: none was open, a plan may have what is in sight, no
-- group stands twice; the pool knows of the plan, and the groups that it folds onto are closed
pub record OpensPlan (sight : Sight) (pool : PoolState) (shards : List ShardState)
    (found : Certificate) (pool_new : PoolState) (shards_new : List ShardState) : Type 0 where
  pub no_plan : pool.has_plan ≡ false
  pub few : IsTooMany sight pool shards → ⊥
  pub distinct : AreDistinct pool shards
  pub largest : IsLargest sight pool shards found
  pub opened : pool_new ≡ with_plan_told pool true
  pub closed : shards_new ≡ map (closing found.plan) shards

-- the mark may be refused for this: a plan is open; or else too much is in sight; or else a group
-- stands twice, or memory runs out
abbrev pub IsRefused : Sight → PoolState → List ShardState → MarkError → Type 0
IsRefused sight pool shards PlanOpen = pool.has_plan ≡ true
IsRefused sight pool shards TooMany = (pool.has_plan ≡ false) × IsTooMany sight pool shards
IsRefused sight pool shards Doubled = (pool.has_plan ≡ false)
    × (IsTooMany sight pool shards → ⊥) × (AreDistinct pool shards → ⊥)
IsRefused sight pool shards OutOfMemory = (pool.has_plan ≡ false)
    × (IsTooMany sight pool shards → ⊥)

-- the mark opens a plan, or it is refused, and then nothing changes
abbrev pub Marks : Sight → PoolState → List ShardState → Result Certificate MarkError → PoolState
    → List ShardState → Type 0
Marks sight pool shards made pool_new shards_new = MatchResult made
    (λ found. OpensPlan sight pool shards found pool_new shards_new)
    (λ error. IsRefused sight pool shards error × (pool_new ≡ pool) × (shards_new ≡ shards))
