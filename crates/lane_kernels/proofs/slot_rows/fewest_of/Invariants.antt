use Rattle.std.proofs.Common.{◌≡◌, ℕ, ◌/◌, ◌<◌, ◌≤◌, length, get_or}
use Rattle.lane_kernels.proofs.slot_rows.fewest_of.Given as goal

abbrev pub invariant-loop-j : goal.invariant-loop-j
invariant-loop-j l =
    (length l.fewest.items ≡ length l.initial.fewest.items)
    × ((k : ℕ) → k < l.j → get_or l.fewest.items (k / 64) 0 ≤ get_or l.counts.items k 0)
