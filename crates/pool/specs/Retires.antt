-- Groups of a running shard that go to the pool, those with the fewest live keys first.
use Rattle.std.specs.Prelude.{zero, suc, ◌≡◌, ℕ, ◌+◌, ◌<◌, ◌≤◌, false, List, None, Some, length, remove, slice_get}
use Rattle.groups.specs.Whole.{WholeState, whole_of}
use Rattle.shard.specs.Group.{GroupState}
use Rattle.shard.specs.Sparse.{HasNoLive, IsSparser, IsSparsest, live_of}
use Rattle.shard.specs.State.{ShardState}
use Rattle.pool.specs.Calls.{IsPooled, TakesIn, with_rooms}
use Rattle.pool.specs.State.{PoolState, PooledState}

-- the shard's group with the fewest live keys goes to the pool whole, and all else of the shard
-- stays
pub record MovesSparsest (old : PoolState) (shard : ShardState) (new : PoolState)
    (left : ShardState) : Type 0 where
  pub whole : WholeState
  pub index : ℕ
  pub group : GroupState
  pub sparsest : IsSparsest shard.groups index group
  pub whole_is : whole ≡ whole_of group
  pub after : left ≡ record shard { onto = None; groups = remove shard.groups index }
  pub takes : TakesIn old whole new

-- that many groups go so, one after another
abbrev pub MovesSparse : ℕ → PoolState → ShardState → PoolState → ShardState → Type 0
MovesSparse zero old shard new left = (new ≡ old) × (left ≡ shard)
MovesSparse (suc count) old shard new left = (mid : PoolState) × (others : ShardState)
    × MovesSparse count old shard mid others × MovesSparsest mid others new left

-- of a running shard that many groups go to the pool, those with the fewest live keys first: as
-- many as asked for, or all that have a live key
pub record Retires (old : PoolState) (shard : ShardState) (most count : ℕ) (new : PoolState)
    (left : ShardState) : Type 0 where
  pub group_room : ℕ
  pub span_room : ℕ
  pub running : shard.ended ≡ false
  pub moved : MovesSparse count (with_rooms old group_room span_room) shard new left
  pub at_most : count ≤ most
  pub all : count < most → HasNoLive left.groups

-- the group stands in the shard
abbrev pub StandsIn : ShardState → GroupState → Type 0
StandsIn shard group = (index : ℕ) × (slice_get shard.groups index ≡ Some group)

-- that many groups of the shard are gone, sparser ones first, and stand in the pool whole: each had
-- a live key, and is sparser than each that is left with one; all others are left as they were,
-- with their pages; every earlier group of the pool stays there, and there is no other
pub record HasRetired (old : PoolState) (shard : ShardState) (count : ℕ) (new : PoolState)
    (left : ShardState) : Type 0 where
  pub gone : List GroupState
  pub many : length gone ≡ count
  pub stood : (place : ℕ) (group : GroupState) → slice_get gone place ≡ Some group
      → StandsIn shard group
  pub live : (place : ℕ) (group : GroupState) → slice_get gone place ≡ Some group
      → 1 ≤ live_of group
  pub came : (place : ℕ) (group : GroupState) → slice_get gone place ≡ Some group
      → IsPooled new (whole_of group)
  pub sparser_first : (low high : ℕ) (a b : GroupState) → low < high → slice_get gone low ≡ Some a
      → slice_get gone high ≡ Some b → IsSparser a b
  pub sparser : (place index : ℕ) (group other : GroupState) → slice_get gone place ≡ Some group
      → slice_get left.groups index ≡ Some other → 1 ≤ live_of other → IsSparser group other
  pub fewer : length shard.groups ≡ count + length left.groups
  pub others : (index : ℕ) (group : GroupState) → slice_get left.groups index ≡ Some group
      → StandsIn shard group
  pub stays : (index : ℕ) (group : PooledState) → slice_get old.groups index ≡ Some group
      → IsPooled new (whole_of group)
  pub no_other : length new.groups ≡ length old.groups + count
