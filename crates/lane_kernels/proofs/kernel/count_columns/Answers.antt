use Rattle.std.proofs.Common.{◌∙◌, arith}
use Rattle.lane_kernels.proofs.Counts.{ones-len}
use Rattle.lane_kernels.proofs.kernel.count_columns.Goals as goal

pub returns-clause-each : goal.returns-clause-each
returns-clause-each c = λ k below.
    let a = c.args in
    c.loop-k.invariant.1 k (omega (arith, below))
    ∙ ones-len a.p.now a.q.now a.r.now a.s.now k (c.type_inv.p k).fits (c.type_inv.q k).fits (c.type_inv.r k).fits (c.type_inv.s k).fits
