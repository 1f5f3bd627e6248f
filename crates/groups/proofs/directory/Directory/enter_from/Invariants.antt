use Rattle.groups.proofs.Entries.{IsEntering}
use Rattle.groups.proofs.directory.Directory.enter_from.Given as goal

abbrev pub invariant-loop-place : goal.invariant-loop-place
invariant-loop-place g l = IsEntering l.fn.self l.self l.guests l.head l.first l.place
