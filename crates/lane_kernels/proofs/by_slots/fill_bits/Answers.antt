use Rattle.std.proofs.Common.{◌*◌, ◌-◌, ◌/◌, ◌%◌, ◌==◌, min, length, arith}
use Rattle.std.specs.Prelude.{slice_index}
use Rattle.std.specs.Int.{bit_at as bit}
use Rattle.lane_kernels.proofs.Words.{bit_at}
use Rattle.lane_kernels.proofs.Columns.{bit_tells}
use Rattle.lane_kernels.proofs.by_slots.fill_bits.Goals as goal

pub returns-clause-bits : goal.returns-clause-bits
returns-clause-bits c = λ j h.
    let a = c.args in
    let n = length a.plane.now in
    let here = c.loop-w.invariant.1 (j / 64) (omega arith) in
    bit_tells _ (bit (slice_index a.plane.now j) a.bit == 1)
    (rw here (bit_at (λ k. bit (slice_index a.plane.now k) a.bit == 1) (64 * (j / 64)) (min 64 (n - 64 * (j / 64))) (j % 64) j (omega arith) (omega arith)))
