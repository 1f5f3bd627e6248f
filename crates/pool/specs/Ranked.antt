-- Groups in a row, found by the ranks of their heads. No public clause cites this module.
use Rattle.std.specs.Prelude.{suc, ◌≡◌, ◌≢◌, ℕ, if◌then◌else◌, List, [], ◌∷◌, Option, Some, IsSome, insert, nat_lt, slice_get}
use Rattle.span.specs.Ids.{rank}
use Rattle.pool.specs.State.{PooledState}

-- how many of the first have a number below this one
abbrev pub lower : {X : Type 0} → (X → ℕ) → ℕ → List X → ℕ
lower key number [] = 0
lower key number (x ∷ xs) = if nat_lt (key x) number then suc (lower key number xs) else 0

-- the elements by ascending numbers
abbrev pub arranged : {X : Type 0} → (X → ℕ) → List X → List X
arranged key [] = []
arranged key (x ∷ xs) = insert (arranged key xs) (lower key (key x) (arranged key xs)) x

-- the rank of the head
abbrev pub head_rank : PooledState → ℕ
head_rank group = rank group.head.id

-- the groups by ascending head
abbrev pub in_order : List PooledState → List PooledState
in_order groups = arranged head_rank groups

-- it is told of each group at which place it stands, and of no other rank
pub record AreFound (groups : List PooledState) (place_of : ℕ → Option ℕ) : Type 0 where
  pub known : (place : ℕ) (group : PooledState) → slice_get groups place ≡ Some group
      → place_of (head_rank group) ≡ Some place
  pub only : (number place : ℕ) → place_of number ≡ Some place → (group : PooledState)
      × (slice_get groups place ≡ Some group) × (head_rank group ≡ number)

-- the group is one of these, and its head has this rank
abbrev pub HasRankAt : List PooledState → ℕ → PooledState → Type 0
HasRankAt groups number group = (index : ℕ) × (slice_get groups index ≡ Some group)
    × (head_rank group ≡ number)

-- the group at the place is gone, and all others are still there
pub record LetsGo (groups : List PooledState) (place : ℕ) (left : List PooledState) : Type 0 where
  pub stood : (now : ℕ) (group : PooledState) → slice_get left now ≡ Some group → (was : ℕ)
      × (was ≢ place) × (slice_get groups was ≡ Some group)
  pub stay : (was : ℕ) (group : PooledState) → slice_get groups was ≡ Some group → was ≢ place
      → (now : ℕ) × (slice_get left now ≡ Some group)

-- each head stands once
abbrev pub HaveOwnHeads : List PooledState → Type 0
HaveOwnHeads groups = (i j : ℕ) (a b : PooledState) → slice_get groups i ≡ Some a
    → slice_get groups j ≡ Some b → a.head.id ≡ b.head.id → i ≡ j

-- what is left are the groups that have a page
pub record KeepsPaged (groups left : List PooledState) : Type 0 where
  pub paged : (now : ℕ) (group : PooledState) → slice_get left now ≡ Some group → IsSome group.page
  pub stood : (now : ℕ) (group : PooledState) → slice_get left now ≡ Some group → (was : ℕ)
      × (slice_get groups was ≡ Some group)
  pub stay : (was : ℕ) (group : PooledState) → slice_get groups was ≡ Some group → IsSome group.page
      → (now : ℕ) × (slice_get left now ≡ Some group)
