use Rattle.std.proofs.Common.{◌*◌}
use Rattle.mesh_graph.proofs.Bits.{IsClear, both}
use Rattle.mesh_graph.proofs.graph.next_shared_bit.Given as goal

abbrev pub invariant-loop-k : goal.invariant-loop-k
invariant-loop-k l = IsClear (both l.words l.among) l.from (64 * l.k)
