use Rattle.std.proofs.Common.{arith}
use Rattle.mesh_graph.proofs.OfClass.{has_bit-met}
use Rattle.mesh_graph.proofs.by_class.keep.Goals as goal

pub returns-clause-bits : goal.returns-clause-bits
returns-clause-bits c =
    has_bit-met c.args.row.now c.args.mask.now c.loop-w.row (λ k low. c.loop-w.invariant.1 k (omega (arith, low))) c.requires (λ k past. c.loop-w.invariant.2 k (omega (arith, past)))
