use Rattle.std.proofs.Common.{◌≡◌, ℕ, ◌*◌, ◌-◌, ◌<◌, min, length, get_or}
use Rattle.lane_kernels.specs.Planes.{is_apart, word_of}
use Rattle.lane_kernels.proofs.kernel.fill_row_by_counts.Given as goal

abbrev pub invariant-loop-w : goal.invariant-loop-w
invariant-loop-w l = (k : ℕ) → k < l.w → get_or l.row k 0 ≡ word_of (is_apart l.set l.p l.q l.r l.s) (64 * k) (min 64 (length l.p - 64 * k))
