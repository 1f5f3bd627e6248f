-- What a fold of a group of the pool onto a group of a shard does, and where there is none.
use Rattle.std.specs.Prelude.{◌≡◌, ◌⊎◌, ℕ, List, length, None, Some}
use Rattle.bitmap.specs.Slots.{AreDisjoint}
use Rattle.span.specs.declared.id.SpanId.{SpanId}
use Rattle.shard.specs.Group.{GroupState}
use Rattle.groups.specs.Group.{HasNoHead, IsHeadOf, occupied, spans_of}
use Rattle.groups.specs.Spans.{union_of}
use Rattle.shard.specs.Moves.{Grafts, with_room}
use Rattle.groups.specs.Whole.{WholeState, spans_moved}
use Rattle.shard.specs.State.{ShardState}
use Rattle.pool.specs.Calls.{Lifts, WouldDouble}
use Rattle.pool.specs.State.{PoolState, PooledState}
use Rattle.fold.specs.declared.step.Step.{Step}
use Rattle.fold.specs.declared.step.Step.TheVariants.{Absent, Clash, Emptied, Folded}

-- a heads no group of the pool, or b no group of the shard, or a span would stand twice
abbrev pub IsAbsent : PoolState → ShardState → SpanId → SpanId → Type 0
IsAbsent pool shard a b = HasNoHead pool.groups a ⊎ (HasNoHead shard.groups b
    ⊎ WouldDouble pool shard a)

-- neither group is absent, and that of a has no page
abbrev pub IsEmptied : PoolState → ShardState → SpanId → SpanId → Type 0
IsEmptied pool shard a b = (IsAbsent pool shard a b → ⊥)
    × ((index : ℕ) × (group : PooledState) × IsHeadOf pool.groups a index group
    × (group.page ≡ None))

-- the groups are of two classes, or a slot is live in both
abbrev pub AreClashing : PoolState → ShardState → SpanId → SpanId → Type 0
AreClashing pool shard a b =
    (index place : ℕ) × (group : PooledState) × (onto : GroupState)
    × IsHeadOf pool.groups a index group × IsHeadOf shard.groups b place onto
    × ((onto.head.class ≡ group.head.class → ⊥) ⊎ (AreDisjoint (occupied onto)
    (union_of (spans_of group)) → ⊥))

-- neither group is absent, both have a page, and they are of two classes or a slot is live in both
abbrev pub IsClash : PoolState → ShardState → SpanId → SpanId → Type 0
IsClash pool shard a b = (IsAbsent pool shard a b → ⊥) × (IsEmptied pool shard a b → ⊥)
    × AreClashing pool shard a b

-- only a refused allocation may stand in the way of the fold
pub record MayFold (pool : PoolState) (shard : ShardState) (a b : SpanId) : Type 0 where
  pub present : IsAbsent pool shard a b → ⊥
  pub paged : IsEmptied pool shard a b → ⊥
  pub apart : IsClash pool shard a b → ⊥

-- the pool's group of a leaves it whole, and its spans are the last guests of the shard's group of
-- b
pub record Folds (pool : PoolState) (shard : ShardState) (a b : SpanId) (pool_new : PoolState)
    (shard_new : ShardState) : Type 0 where
  pub whole : WholeState
  pub lifts : Lifts pool a (Some whole) pool_new
  pub grafts : Grafts (with_room shard (Some b) (length (spans_moved whole))) b whole shard_new

-- the group of this head has that many spans
abbrev pub HasSpans : List PooledState → SpanId → ℕ → Type 0
HasSpans groups head spans = (index : ℕ) × (group : PooledState) × IsHeadOf groups head index group
    × (spans ≡ length (spans_of group))

-- the answer and what it changes: nothing, but for a fold
abbrev pub Steps : PoolState → ShardState → SpanId → SpanId → Step → PoolState → ShardState → Type 0
Steps pool shard a b Absent pool_new shard_new = IsAbsent pool shard a b × (pool_new ≡ pool)
    × (shard_new ≡ shard)
Steps pool shard a b Emptied pool_new shard_new = IsEmptied pool shard a b × (pool_new ≡ pool)
    × (shard_new ≡ shard)
Steps pool shard a b Clash pool_new shard_new = IsClash pool shard a b × (pool_new ≡ pool)
    × (shard_new ≡ shard)
Steps pool shard a b Folded pool_new shard_new = MayFold pool shard a b
    × Folds pool shard a b pool_new shard_new
