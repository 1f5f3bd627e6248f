-- What a shard's groups need on their way to the pool, and what they leave behind. No public clause
-- cites this module.
use Rattle.std.specs.Prelude.{◌≡◌, ℕ, ◌+◌, ◌≤◌, List, [], ◌∷◌, ◌++◌, Some, length, count_by, slice_get, sum_by}
use Rattle.span.specs.Ids.{same_span}
use Rattle.span.specs.State.{SpanState}
use Rattle.span.specs.declared.id.SpanId.{SpanId}
use Rattle.shard.specs.Group.{GroupState}
use Rattle.shard.specs.Sparse.{AreSparsestFirst}
use Rattle.shard.specs.State.{ShardState}
use Rattle.shard.specs.declared.shard.retiring.LiveGroup.{LiveGroup}
use Rattle.groups.specs.Group.{IsElsewhere, spans_in, spans_of}
use Rattle.shard.specs.Sound.{IsSound as IsSoundShard}
use Rattle.pool.specs.Sound.{IsSound}
use Rattle.pool.specs.State.{PoolState, PooledState}

-- how many spans the groups have together
abbrev pub span_count : List LiveGroup → ℕ
span_count going = sum_by (λ one. one.spans) going

-- no span stands twice in pool and shard together
abbrev pub AreApart : PoolState → ShardState → Type 0
AreApart pool shard = (id : SpanId) → count_by (λ span. same_span span.id id) (spans_in pool.groups)
    + count_by (λ span. same_span span.id id) (spans_in shard.groups) ≤ 1

-- the pool has reserved room for all groups of the shard
pub record HasRoomFor (pool : PoolState) (shard : ShardState) : Type 0 where
  pub groups : length shard.groups ≤ pool.group_room
  pub spans : length (spans_in shard.groups) ≤ pool.span_room

-- the shard has no group left, and nothing else has changed but its reserved room
pub record HasLetAllGo (old new : ShardState) : Type 0 where
  pub groups : new.groups ≡ []
  pub number : new.number ≡ old.number
  pub page_limit : new.page_limit ≡ old.page_limit
  pub span_limit : new.span_limit ≡ old.span_limit
  pub slot_limit : new.slot_limit ≡ old.slot_limit
  pub gens : new.gens ≡ old.gens
  pub opened : new.opened ≡ old.opened
  pub ended : new.ended ≡ old.ended

-- both are sound, no span stands in both, and the pool has reserved room for the groups that are to
-- go, which are the first of the shard's by sparseness
pub record AreReady (pool : PoolState) (shard : ShardState) (going rest : List LiveGroup) :
    Type 0 where
  pub sound : IsSound pool
  pub sound_shard : IsSoundShard shard
  pub apart : AreApart pool shard
  pub groups : length going ≤ pool.group_room
  pub spans : span_count going ≤ pool.span_room
  pub order : AreSparsestFirst shard.groups (going ++ rest)

-- whatever was ready for the group and others is ready for the others then
abbrev pub StayReady : LiveGroup → PoolState → ShardState → PoolState → ShardState → Type 0
StayReady one old shard new left = (more rest : List LiveGroup)
    → AreReady old shard (one ∷ more) rest → AreReady new left more rest

-- one of the spans stands among the shard's groups
abbrev pub HasAnyIn : List GroupState → List SpanState → Type 0
HasAnyIn others spans = (place : ℕ) × (span : SpanState) × (slice_get spans place ≡ Some span)
    × (IsElsewhere others span.id → ⊥)

-- so does one of the spans of the pool's groups
abbrev pub HaveOneIn : List GroupState → List PooledState → Type 0
HaveOneIn others groups = (index : ℕ) × (group : PooledState)
    × (slice_get groups index ≡ Some group) × HasAnyIn others (spans_of group)
