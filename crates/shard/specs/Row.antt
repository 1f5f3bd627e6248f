-- The list that a shard's groups stand in, and their order. No public clause cites this module.
use Rattle.std.specs.Prelude.{◌≡◌, ◌<◌, ◌≤◌, ℕ, List, count_by, filter_map, length, nat_eq, slice_get}
use Rattle.shard.specs.Group.{GroupState}

-- groups by ascending place, and how many there is room for
pub record RowState : Type 0 where
  pub items : List GroupState
  pub room : ℕ

-- what stands in the list at the places of the order, one after another
abbrev pub in_order : {X : Type 0} → List X → List ℕ → List X
in_order list order = filter_map (slice_get list) order

-- the order names each of so many places once, and no other
pub record IsOrder (count : ℕ) (order : List ℕ) : Type 0 where
  pub many : length order ≡ count
  pub once : (place : ℕ) → place < count → count_by (nat_eq place) order ≡ 1
  pub no_other : (place : ℕ) → count ≤ place → count_by (nat_eq place) order ≡ 0
