-- What the steps of a row of groups do. No public clause cites this module.
use Rattle.std.specs.Prelude.{◌≡◌, ◌<◌, ◌≤◌, ℕ, List, Some, false, slice_get, true}
use Rattle.std.specs.List.{swap}
use Rattle.span.specs.declared.id.SpanId.{SpanId}
use Rattle.span.specs.Ids.{rank}
use Rattle.shard.specs.Group.{GroupState}
use Rattle.shard.specs.Leaving.{has_left}

-- the first groups, so many, have lower heads than the id
abbrev pub AreLower : List GroupState → SpanId → ℕ → Type 0
AreLower groups id count = (other : ℕ) (group : GroupState) → other < count
    → slice_get groups other ≡ Some group → rank group.head.id < rank id

-- the groups from the index on have no lower heads
abbrev pub AreNotLower : List GroupState → SpanId → ℕ → Type 0
AreNotLower groups id from = (other : ℕ) (group : GroupState) → from ≤ other
    → slice_get groups other ≡ Some group → rank id ≤ rank group.head.id

-- the elements at the places that the order has at two indexes have changed places
abbrev pub AreExchanged : {X : Type 0} → List ℕ → (first second : ℕ) → (old new : List X) → Type 0
AreExchanged order first second old new = (place other : ℕ) → slice_get order first ≡ Some place
    → slice_get order second ≡ Some other → new ≡ swap old place other

-- the groups at the places below the first number have not left, and those from the second on have
pub record IsParted (groups : List GroupState) (low high : ℕ) : Type 0 where
  pub stayed : (place : ℕ) (group : GroupState) → place < low
      → slice_get groups place ≡ Some group → has_left group ≡ false
  pub left : (place : ℕ) (group : GroupState) → high ≤ place
      → slice_get groups place ≡ Some group → has_left group ≡ true
