use Rattle.std.proofs.Common.{length}
use Rattle.mesh_graph.specs.Groups.{IsAscending, ids}
use Rattle.certificate.specs.Chosen.{AreOnce, ids_in}
use Rattle.certificate.proofs.distinct.are_once.Given as goal

abbrev pub invariant-loop-rest : goal.invariant-loop-rest
invariant-loop-rest l = record {
  up : IsAscending (ids l.rest);
  from : AreOnce l.rest (ids_in l.list) → AreOnce l.entries (ids_in l.list);
  to : AreOnce l.entries (ids_in l.list) → AreOnce l.rest (ids_in l.list);
}

abbrev pub decreases-loop-rest : goal.decreases-loop-rest
decreases-loop-rest l = length l.rest
