use Rattle.std.proofs.Common.{ℕ, ◌≡◌, ◌-◌, ◌%◌, ◌≤◌, ◌<◌, length, get_or}
use Rattle.lane_kernels.specs.Planes.{ones_of}
use Rattle.lane_kernels.proofs.kernel.count_columns.Given as goal

abbrev pub invariant-loop-at : goal.invariant-loop-at
invariant-loop-at l = (l.at % 8 ≡ 0) × (l.at ≤ l.whole) × (length l.counts ≡ length l.p) × ((k : ℕ) → k < l.at → get_or l.counts k 0 ≡ ones_of l.p l.q l.r l.s k)

abbrev pub decreases-loop-at : goal.decreases-loop-at
decreases-loop-at l = l.whole - l.at

abbrev pub invariant-loop-k : goal.invariant-loop-k
invariant-loop-k l = (length l.counts ≡ length l.p) × ((k : ℕ) → k < l.k → get_or l.counts k 0 ≡ ones_of l.p l.q l.r l.s k)
