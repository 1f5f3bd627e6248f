-- How a heap of ranks shows, and what it keeps. No public clause cites this module.
use Rattle.std.specs.Prelude.{ℕ, map}
use Rattle.std.specs.BinaryHeap.{IsHeap, heap_capacity, heap_items}
use Rattle.std.specs.Ordering.{nat_cmp}
use Rattle.std.specs.declared.cmp.Reverse.{Reverse}
use Rattle.pool.specs.Noted.{RanksState}
use Rattle.pool.specs.declared.ranks.Ranks.TheInside.{Inside}

-- what contracts see of the fields
abbrev pub state_of : Inside → RanksState
state_of r =
    record { ranks = map (λ one. one.0) (heap_items r.heap); capacity = heap_capacity r.heap }

-- the least comes first
pub record IsKept (r : Inside) : Type 0 where
  pub ordered : IsHeap (λ (a b : Reverse ℕ). nat_cmp b.0 a.0) (heap_items r.heap)
