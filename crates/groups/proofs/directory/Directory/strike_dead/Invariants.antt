use Rattle.groups.proofs.Entries.{IsStrikingDead}
use Rattle.groups.proofs.directory.Directory.strike_dead.Given as goal

abbrev pub invariant-loop-index : goal.invariant-loop-index
invariant-loop-index g l = IsStrikingDead l.fn.self l.self l.guests l.index
