use Rattle.std.proofs.Common.{◌≡◌, ◌++◌, drop}
use Rattle.mesh_graph.specs.Groups.{ids}
use Rattle.augment.specs.Listed.{pairs_of}
use Rattle.augment.proofs.planning.list_pairs.Given as goal

abbrev pub invariant-loop-i : goal.invariant-loop-i
invariant-loop-i l = l.pairs.items ++ pairs_of (ids l.graph.owned) (drop l.i (ids l.graph.abandoned)) (drop l.i l.mates.onto.items)
    ≡ pairs_of (ids l.graph.owned) (ids l.graph.abandoned) l.mates.onto.items
