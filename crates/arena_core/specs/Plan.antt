-- The open plan of a core: what becomes of its pairs.
use Rattle.std.specs.Prelude.{◌≡◌, ◌⊎◌, ℕ, ◌<◌, ◌≤◌, length, IsSome, Some, None, is_some, MatchOption, slice_get}
use Rattle.bitmap.specs.Slots.{AreDisjoint}
use Rattle.span.specs.declared.id.SpanId.{SpanId}
use Rattle.shard.specs.Group.{GroupState}
use Rattle.groups.specs.Group.{IsHeadOf, occupied}
use Rattle.groups.specs.Spans.{IsSpanAt}
use Rattle.shard.specs.State.{ShardState}
use Rattle.pool.specs.State.{PooledState}
use Rattle.arena_core.specs.State.{CoreState}
use Rattle.marks.specs.Plans.{AreClosedAsPlanned, OpenPlan}

-- the pair is the next of the open plan
pub record IsNext (core : CoreState) (plan : OpenPlan) (pair : SpanId × SpanId) : Type 0 where
  pub plan_is : core.plan ≡ Some plan
  pub pair_is : slice_get plan.pairs plan.done ≡ Some pair

-- the group of this head stands in a shard
pub record IsOwned (core : CoreState) (head : SpanId) (group : GroupState) : Type 0 where
  pub number : ℕ
  pub shard : ShardState
  pub index : ℕ
  pub shard_is : slice_get core.shards number ≡ Some shard
  pub head_of : IsHeadOf shard.groups head index group

-- the group of this head stands in the pool
pub record IsAbandoned (core : CoreState) (head : SpanId) (group : PooledState) : Type 0 where
  pub index : ℕ
  pub head_of : IsHeadOf core.pool.groups head index group

-- the abandoned group is in the pool and the owned one in a shard, where it has a page, both are of
-- one class, and no slot is occupied in both
pub record IsWaiting (core : CoreState) (pair : SpanId × SpanId) : Type 0 where
  pub abandoned : PooledState
  pub owned : GroupState
  pub is_abandoned : IsAbandoned core pair.0 abandoned
  pub is_owned : IsOwned core pair.1 owned
  pub paged : IsSome owned.page
  pub class_is : abandoned.head.class ≡ owned.head.class
  pub apart : AreDisjoint (occupied abandoned) (occupied owned)

-- the abandoned group is a guest of its partner
pub record IsGuest (core : CoreState) (pair : SpanId × SpanId) : Type 0 where
  pub owned : GroupState
  pub place : ℕ
  pub is_owned : IsOwned core pair.1 owned
  pub guest : IsSpanAt owned.guests pair.0 place

-- the abandoned group is in the pool, empty, without a page
pub record IsEmptyInPool (core : CoreState) (pair : SpanId × SpanId) : Type 0 where
  pub abandoned : PooledState
  pub is_abandoned : IsAbandoned core pair.0 abandoned
  pub no_page : abandoned.page ≡ None

-- the pair's abandoned group has no page of its own: it is a guest of its partner, or empty in the
-- pool
abbrev pub IsCarriedOut : CoreState → SpanId × SpanId → Type 0
IsCarriedOut core pair = IsGuest core pair ⊎ IsEmptyInPool core pair

-- no group stands in two pairs, the owned groups stay in their shards, the pairs that are done with
-- are carried out, and the others wait
pub record IsUnderWay (core : CoreState) (plan : OpenPlan) : Type 0 where
  pub within : plan.done ≤ length plan.pairs
  pub abandoned_once : (i j : ℕ) (p q : SpanId × SpanId) → slice_get plan.pairs i ≡ Some p
      → slice_get plan.pairs j ≡ Some q → p.0 ≡ q.0 → i ≡ j
  pub owned_once : (i j : ℕ) (p q : SpanId × SpanId) → slice_get plan.pairs i ≡ Some p
      → slice_get plan.pairs j ≡ Some q → p.1 ≡ q.1 → i ≡ j
  pub stands : (k : ℕ) (pair : SpanId × SpanId) → slice_get plan.pairs k ≡ Some pair
      → (group : GroupState) × IsOwned core pair.1 group
  pub carried_out : (k : ℕ) (pair : SpanId × SpanId) → k < plan.done
      → slice_get plan.pairs k ≡ Some pair → IsCarriedOut core pair
  pub waiting : (k : ℕ) (pair : SpanId × SpanId) → plan.done ≤ k
      → slice_get plan.pairs k ≡ Some pair → IsWaiting core pair

-- what holds of the plan: the pool knows of it, the closed groups are those onto which it folds,
-- and it is under way
pub record HasSoundPlan (core : CoreState) : Type 0 where
  pub told : core.pool.has_plan ≡ is_some core.plan
  pub closed : (number : ℕ) (shard : ShardState) → slice_get core.shards number ≡ Some shard
      → AreClosedAsPlanned core.plan shard.groups
  pub under_way : MatchOption core.plan (Unit {0}) (IsUnderWay core)
