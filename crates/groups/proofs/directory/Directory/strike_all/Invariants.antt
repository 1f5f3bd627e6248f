use Rattle.groups.proofs.Entries.{IsStriking}
use Rattle.groups.proofs.directory.Directory.strike_all.Given as goal

abbrev pub invariant-loop-index : goal.invariant-loop-index
invariant-loop-index g l = IsStriking l.fn.self l.self l.guests l.index
