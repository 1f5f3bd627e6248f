use Rattle.std.proofs.Common.{take}
use Rattle.certificate.specs.Chosen.{AreOnce, HasSeen, ids_in}
use Rattle.certificate.proofs.distinct.few_are_once.Given as goal

abbrev pub invariant-loop-k : goal.invariant-loop-k
invariant-loop-k l = record { seen : HasSeen l.entries (take l.k (ids_in l.list)) l.seen.words; once : AreOnce l.entries (take l.k (ids_in l.list)) }
