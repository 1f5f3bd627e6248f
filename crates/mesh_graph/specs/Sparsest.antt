-- The groups with the fewest live slots.
use Rattle.std.specs.Prelude.{◌≡◌, ℕ, ◌≤◌, ◌++◌, List, length, min}
use Rattle.std.specs.FinSet as set
use Rattle.std.specs.List.{All}
use Rattle.std.specs.List.Sorted.{IsPermutation}
use Rattle.span.specs.declared.entry.Entry.{Entry}

-- how many slots are live in the group
abbrev pub occupied_count : Entry → ℕ
occupied_count entry = set.len entry.occupied

-- so many of the groups, or all where there are no more; none of them has more live slots than one
-- that is left out
pub record AreSparsest (most : ℕ) (entries chosen : List Entry) : Type 0 where
  pub left_out : List Entry
  pub each : IsPermutation entries (chosen ++ left_out)
  pub count : length chosen ≡ min most (length entries)
  pub fewest : All (λ a. All (λ b. occupied_count a ≤ occupied_count b) left_out) chosen
