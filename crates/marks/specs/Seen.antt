-- What a mark sees of the pool and the shards, and the plan that it answers.
use Rattle.std.specs.Prelude.{◌≡◌, ◌⊎◌, ℕ, ◌<◌, Bool, List, length, map, Some, slice_get, sum_by, ◌++◌}
use Rattle.std.specs.List.{IsDistinct, flat_map}
use Rattle.std.specs.List.Sorted.{IsPermutation}
use Rattle.span.specs.Ids.{same_span}
use Rattle.shard.specs.Sound.{IsSound as IsSoundShard}
use Rattle.shard.specs.State.{ShardState}
use Rattle.groups.specs.Group.{paged_in, summary}
use Rattle.pool.specs.State.{PoolState, paged_groups}
use Rattle.span.specs.declared.entry.Entry.{Entry}
use Rattle.mesh_graph.specs.Groups.{Groups, IsAscending, ids}
use Rattle.mesh_graph.specs.Sparsest.{AreSparsest}
use Rattle.certificate.specs.declared.certificate.Certificate.{Certificate}
use Rattle.marks.specs.declared.sight.Sight.{Sight}
use Rattle.marks.specs.declared.sight.Sight.TheVariants.{All, Sparsest}
use Rattle.certificate.specs.Plans.{IsBestPlanOf, IsCertificateOf, IsShortOf}
use Rattle.certificate.specs.Text.{IsWritable}
use Rattle.mesh_graph.specs.declared.build.TheConstants.{MOST_GROUPS}
use Rattle.pool.specs.Sparse.{AreParted}

-- every group of the pool that has a page
abbrev pub abandoned_entries : PoolState → List Entry
abandoned_entries pool = map summary (paged_groups pool)

-- every group of every shard that has a page; a shard that has ended has none
abbrev pub owned_entries : List ShardState → List Entry
owned_entries shards = flat_map (λ shard. map summary (paged_in shard.groups)) shards

-- how many pages the shards have
abbrev pub pages_of : List ShardState → ℕ
pages_of shards = sum_by (λ shard. length (paged_in shard.groups)) shards

-- the groups that are found among some entries become those found among more of them
abbrev pub PartMore : ℕ → List Entry → List Entry → List Entry → Type 0
PartMore bound more old new = (before : List Entry) → AreParted bound before old
    → AreParted bound (before ++ more) new

-- every group of the pool and of every shard that has a page, each once, by ascending head
pub record IsSeen (pool : PoolState) (shards : List ShardState) (groups : Groups) : Type 0 where
  pub abandoned : IsPermutation (abandoned_entries pool) groups.abandoned
  pub owned : IsPermutation (owned_entries shards) groups.owned
  pub abandoned_ascending : IsAscending (ids groups.abandoned)
  pub owned_ascending : IsAscending (ids groups.owned)

-- of the groups that have a page on each side the 4,096 with the fewest live slots, or all where
-- there are no more, each once, by ascending head
pub record IsSeenInPart (pool : PoolState) (shards : List ShardState) (groups : Groups) :
    Type 0 where
  pub abandoned : AreSparsest MOST_GROUPS (abandoned_entries pool) groups.abandoned
  pub owned : AreSparsest MOST_GROUPS (owned_entries shards) groups.owned
  pub abandoned_ascending : IsAscending (ids groups.abandoned)
  pub owned_ascending : IsAscending (ids groups.owned)

-- no group stands twice on its side
pub record AreDistinct (pool : PoolState) (shards : List ShardState) : Type 0 where
  pub abandoned : IsDistinct same_span (ids (abandoned_entries pool))
  pub owned : IsDistinct same_span (ids (owned_entries shards))

-- what is in sight of a mark: all groups that have a page, or those with the fewest live slots
abbrev pub IsInSight : Sight → PoolState → List ShardState → Groups → Type 0
IsInSight All = IsSeen
IsInSight Sparsest = IsSeenInPart

-- each of the shards is sound; so one that has ended has no group
abbrev pub AreSound : List ShardState → Type 0
AreSound shards = (number : ℕ) (shard : ShardState) → slice_get shards number ≡ Some shard
    → IsSoundShard shard

-- a side has more groups with a page than a plan may have
abbrev pub AreTooMany : PoolState → List ShardState → Type 0
AreTooMany pool shards = (MOST_GROUPS < length (abandoned_entries pool))
    ⊎ (MOST_GROUPS < length (owned_entries shards))

-- more groups with a page are in sight than a plan may have
abbrev pub IsTooMany : Sight → PoolState → List ShardState → Type 0
IsTooMany All pool shards = AreTooMany pool shards
IsTooMany Sparsest pool shards = ⊥

-- the plan has the most pairs that a plan of the snapshot may have, the short set shows this, and
-- the whole can be written as a text
pub record IsShown (found : Certificate) : Type 0 where
  pub best : IsBestPlanOf found.snapshot found.plan
  pub short : IsShortOf found.snapshot found.plan found.short
  pub certificate : IsCertificateOf found.snapshot found.plan found.short
  pub writable : IsWritable found

-- a largest plan of what is in sight of the pool and the shards, with what shows it
pub record IsLargest (sight : Sight) (pool : PoolState) (shards : List ShardState)
    (found : Certificate) : Type 0 where
  pub seen : IsInSight sight pool shards found.snapshot
  pub shown : IsShown found

-- the pool, which knows whether a plan is open
abbrev pub with_plan_told : PoolState → Bool → PoolState
with_plan_told pool told = record pool { has_plan = told }
