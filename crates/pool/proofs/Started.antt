-- A pool with no group is sound, and what stands in the box of another is what this shows.
use Rattle.std.proofs.Common.{◌≡◌, Bool, Option, Some, ap, rules, option_map, unwrap_or}
use Rattle.pool.specs.Sound.{IsSound}
use Rattle.pool.specs.State.{PoolState, no_groups}

pub IsSound-none : (has_plan : Bool) → IsSound (no_groups has_plan)
IsSound-none has_plan = search rules

pub shown_in_box : {S : Type 0} (value : S → PoolState) (stock : Option S) (none : PoolState) (box : S) → stock ≡ Some box → unwrap_or (option_map value stock) none ≡ value box
shown_in_box value stock none box is = ap (λ s. unwrap_or (option_map value s) none) is
