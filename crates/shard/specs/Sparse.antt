-- Which of a shard's groups have the fewest live slots.
use Rattle.std.specs.Prelude.{◌≡◌, ◌⊎◌, ℕ, ◌<◌, ◌≤◌, List, Some, length, slice_get}
use Rattle.span.specs.Ids.{rank}
use Rattle.groups.specs.Spans.{live_count}
use Rattle.groups.specs.Group.{spans_of}
use Rattle.shard.specs.Group.{GroupState}
use Rattle.shard.specs.declared.shard.retiring.LiveGroup.{LiveGroup}

-- how many keys are live in the group
abbrev pub live_of : GroupState → ℕ
live_of group = live_count (spans_of group)

-- no key is live in any of the groups
abbrev pub HasNoLive : List GroupState → Type 0
HasNoLive groups = (index : ℕ) (group : GroupState) → slice_get groups index ≡ Some group
    → live_of group ≡ 0

-- of the groups with a live key, the first of those with the fewest
pub record IsSparsest (groups : List GroupState) (index : ℕ) (group : GroupState) : Type 0 where
  pub here : slice_get groups index ≡ Some group
  pub some : 1 ≤ live_of group
  pub fewest : (other : ℕ) (g : GroupState) → slice_get groups other ≡ Some g → 1 ≤ live_of g
      → live_of group ≤ live_of g
  pub first : (other : ℕ) (g : GroupState) → other < index → slice_get groups other ≡ Some g
      → 1 ≤ live_of g → live_of group < live_of g

-- the group has fewer live keys than the other, or as many and the lower head
abbrev pub IsSparser : GroupState → GroupState → Type 0
IsSparser group other = (live_of group < live_of other)
    ⊎ ((live_of group ≡ live_of other) × (rank group.head.id < rank other.head.id))

-- what is told of a group
abbrev pub told_of : GroupState → LiveGroup
told_of group =
    record { head = group.head.id; live = live_of group; spans = length (spans_of group) }

-- the same of two groups that are told of
abbrev pub IsToldBefore : LiveGroup → LiveGroup → Type 0
IsToldBefore group other = (group.live < other.live)
    ⊎ ((group.live ≡ other.live) × (rank group.head < rank other.head))

-- the list tells of each group with a live key, and of no other, the sparsest first
pub record AreSparsestFirst (groups : List GroupState) (told : List LiveGroup) : Type 0 where
  pub each : (index : ℕ) (group : GroupState) → slice_get groups index ≡ Some group
      → 1 ≤ live_of group → (place : ℕ) × (slice_get told place ≡ Some (told_of group))
  pub only : (place : ℕ) (one : LiveGroup) → slice_get told place ≡ Some one → (index : ℕ)
      × (group : GroupState) × (slice_get groups index ≡ Some group) × (1 ≤ live_of group)
      × (told_of group ≡ one)
  pub order : (low high : ℕ) (a b : LiveGroup) → low < high → slice_get told low ≡ Some a
      → slice_get told high ≡ Some b → IsToldBefore a b
