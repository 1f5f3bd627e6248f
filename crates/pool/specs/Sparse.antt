-- Groups with few live slots.
use Rattle.std.specs.Prelude.{ℕ, ◌+◌, ◌<◌, ◌≤◌, ◌++◌, List, length, min}
use Rattle.std.specs.FinSet as set
use Rattle.std.specs.List.{All}
use Rattle.std.specs.List.Sorted.{IsPermutation}
use Rattle.span.specs.declared.entry.Entry.{Entry}

-- each group that is found has fewer live slots than the bound, and each that is left out lacks at
-- most one slot to have as many
pub record AreParted (bound : ℕ) (entries found : List Entry) : Type 0 where
  pub left_out : List Entry
  pub each : IsPermutation entries (found ++ left_out)
  pub below : All (λ a. set.len a.occupied < bound) found
  pub above : All (λ b. bound ≤ set.len b.occupied + 1) left_out

-- at least so many of the groups, or all where there are no more, in no order; none of them has
-- more live slots than one that is left out
pub record HaveSparsest (most : ℕ) (entries found : List Entry) : Type 0 where
  pub left_out : List Entry
  pub each : IsPermutation entries (found ++ left_out)
  pub enough : min most (length entries) ≤ length found
  pub fewest : All (λ a. All (λ b. set.len a.occupied ≤ set.len b.occupied) left_out) found
