-- What the row, the table and the heap keep after a change.
use Rattle.std.proofs.Common.{◌≡◌, ℕ, ◌+◌, ◌≤◌, List, Option, Some, length, length-set, set, slice_get, rules, IsSome}
use Rattle.pool.specs.Noted.{RanksState}
use Rattle.pool.specs.State.{PooledState}
use Rattle.pool.specs.Tabled.{AreKept}
use Rattle.pool.proofs.NotedRanks.{AreNoted-set}
use Rattle.pool.proofs.RankedGroups.{AreFound-same, AreFound-set}

module _ (row : List PooledState) (capacity : ℕ) (place_of : ℕ → Option ℕ) (spare : ℕ) (paged : RanksState) (room : ℕ) (kept : AreKept row capacity place_of spare paged room) where
  -- the same groups and ranks, with other room
  pub AreKept-same : (now : List PooledState) → now ≡ row → (places : ℕ → Option ℕ) → ((number : ℕ) → places number ≡ place_of number) → (ranks : RanksState) → ranks.ranks ≡ paged.ranks
      → (most free more : ℕ) → length row + more ≤ most → more ≤ free → length paged.ranks + more ≤ ranks.capacity → length row + more ≤ ranks.capacity → AreKept now most places free ranks more
  AreKept-same now same places found ranks noted most free more in_row in_table in_heap all_in_heap = search (rules, AreFound-same)

  -- a group that changes where it stands, and keeps its head
  pub AreKept-set : (place : ℕ) (group now : PooledState) → slice_get row place ≡ Some group → now.head.id ≡ group.head.id → (IsSome now.page → IsSome group.page)
      → AreKept (set row place now) capacity place_of spare paged room
  AreKept-set place group now here same pages = search (rules, length-set, AreFound-set, AreNoted-set)
