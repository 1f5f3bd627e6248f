use Rattle.std.proofs.Common.{◌≡◌, vec_capacity}
use Rattle.audit.proofs.LogTable.{AreFirstPlaces}
use Rattle.audit.proofs.log.places_of.Given as goal

abbrev pub invariant-loop-log : goal.invariant-loop-log
invariant-loop-log l = record { first : AreFirstPlaces l.logs l.log l.places.items; room : vec_capacity l.places ≡ vec_capacity l.initial.places }
