-- What a row of groups, the table of their places and the heap of ranks keep together. No public
-- clause cites this module.
use Rattle.std.specs.Prelude.{ℕ, ◌+◌, ◌≤◌, List, Option, length}
use Rattle.pool.specs.Noted.{AreNoted, RanksState}
use Rattle.pool.specs.Ranked.{AreFound}
use Rattle.pool.specs.State.{PooledState}

-- each place is found, the ranks of all groups that have a page are noted, and there is room for
-- that many more groups: in the row, in the table, and in the heap, both for more ranks and for
-- those of all groups
pub record AreKept (row : List PooledState) (capacity : ℕ) (place_of : ℕ
    → Option ℕ) (spare : ℕ) (paged : RanksState) (room : ℕ) : Type 0 where
  pub found : AreFound row place_of
  pub noted : AreNoted row paged.ranks
  pub in_row : length row + room ≤ capacity
  pub in_table : room ≤ spare
  pub in_heap : length paged.ranks + room ≤ paged.capacity
  pub all_in_heap : length row + room ≤ paged.capacity
