use Rattle.std.proofs.Common.{◌≡◌, ◌++◌, drop}
use Rattle.mesh_graph.specs.Groups.{ids}
use Rattle.augment.specs.Listed.{short_of}
use Rattle.augment.proofs.planning.list_short.Given as goal

abbrev pub invariant-loop-i : goal.invariant-loop-i
invariant-loop-i l = l.short.items ++ short_of l.reached (drop l.i (ids l.graph.abandoned)) (drop l.i l.mates.onto.items) ≡ short_of l.reached (ids l.graph.abandoned) l.mates.onto.items
