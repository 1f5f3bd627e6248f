use Rattle.std.proofs.Common.{◌*◌, ◌-◌, ◌/◌, ◌%◌, min, length, arith}
use Rattle.lane_kernels.specs.Planes.{is_apart}
use Rattle.lane_kernels.proofs.Words.{bit_at, no_bit_at}
use Rattle.lane_kernels.proofs.kernel.fill_row_by_counts.Goals as goal

pub returns-clause-columns : goal.returns-clause-columns
returns-clause-columns c = λ j h.
    let a = c.args in
    let n = length a.p.now in
    let here = c.loop-w.invariant (j / 64) (omega arith) in
    rw here (bit_at (is_apart a.set.now a.p.now a.q.now a.r.now a.s.now) (64 * (j / 64)) (min 64 (n - 64 * (j / 64))) (j % 64) j (omega arith) (omega arith))

pub returns-clause-rest : goal.returns-clause-rest
returns-clause-rest c = λ j past h.
    let a = c.args in
    let n = length a.p.now in
    let here = c.loop-w.invariant (j / 64) (omega arith) in
    rw here (no_bit_at (is_apart a.set.now a.p.now a.q.now a.r.now a.s.now) (64 * (j / 64)) (min 64 (n - 64 * (j / 64))) (j % 64) (omega arith))
