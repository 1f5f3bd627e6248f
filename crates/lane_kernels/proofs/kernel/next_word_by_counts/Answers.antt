use Rattle.std.proofs.Common.{◌-◌, arith, min, length}
use Rattle.lane_kernels.specs.Planes.{is_apart}
use Rattle.lane_kernels.proofs.Crowded.{is_apart-crowded, word_of-none}
use Rattle.lane_kernels.proofs.kernel.next_word_by_counts.Goals as goal

pub returns-then-fewest-count : goal.returns-then-fewest-count
returns-then-fewest-count c =
    let a = c.args in
    word_of-none (is_apart a.set.now a.p.now a.q.now a.r.now a.s.now) a.at (min 64 (length a.p.now - a.at)) (λ j from below.
    let few = c.requires.fewest j from (omega arith) (omega arith) in
    is_apart-crowded a.set.now a.p.now a.q.now a.r.now a.s.now c.requires.set (λ k. (c.type_inv.p k).fits) (λ k. (c.type_inv.q k).fits) (λ k. (c.type_inv.r k).fits) (λ k. (c.type_inv.s k).fits) j
    (omega (arith, few, c.if-fewest-count.true, c.requires.count, c.requires.at_most)))
