use Rattle.std.proofs.lemmas.Simd.{get_or-put_chunk_below}
use Rattle.lane_kernels.proofs.Counts.{lanes-fit, written}
use Rattle.lane_kernels.proofs.kernel.count_eight.Goals as goal

pub overflow_cast-counts : goal.overflow_cast-counts
overflow_cast-counts c =
    let a = c.args in
    lanes-fit a.p.now a.q.now a.r.now a.s.now a.at c.requires.p c.requires.q c.requires.r c.requires.s (λ k. (c.type_inv.p k).fits) (λ k. (c.type_inv.q k).fits)
    (λ k. (c.type_inv.r k).fits) (λ k. (c.type_inv.s k).fits)

pub returns-clause-before : goal.returns-clause-before
returns-clause-before c = λ k below. get_or-put_chunk_below c.args.at c.args.counts.now _ k 0 below

pub returns-clause-each : goal.returns-clause-each
returns-clause-each c =
    let a = c.args in
    written a.p.now a.q.now a.r.now a.s.now a.at c.requires.p c.requires.q c.requires.r c.requires.s (λ k. (c.type_inv.p k).fits) (λ k. (c.type_inv.q k).fits)
    (λ k. (c.type_inv.r k).fits) (λ k. (c.type_inv.s k).fits) a.counts.now c.requires.counts
