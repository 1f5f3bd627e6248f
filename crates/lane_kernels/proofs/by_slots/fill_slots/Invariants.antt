use Rattle.std.proofs.Common.{◌≡◌, ◌*◌, length, take}
use Rattle.lane_kernels.specs.Rows.{AreBitRows, padded, width_of}
use Rattle.lane_kernels.proofs.by_slots.fill_slots.Given as goal

abbrev pub invariant-loop-k : goal.invariant-loop-k
invariant-loop-k l = (length l.rows ≡ length l.fn.rows) × AreBitRows l.p l.q l.r l.s l.first l.k (take (padded (width_of (length l.p)) * l.k) l.rows)
