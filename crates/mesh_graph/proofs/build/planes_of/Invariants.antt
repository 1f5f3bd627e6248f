use Rattle.std.proofs.Common.{◌≡◌, map, take}
use Rattle.mesh_graph.proofs.build.planes_of.Given as goal

abbrev pub invariant-loop-entry : goal.invariant-loop-entry
invariant-loop-entry l = l.planes ≡ map (λ y. y.occupied) (take l.entry-index l.groups)
