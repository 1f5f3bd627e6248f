use Rattle.groups.proofs.Entries.{IsMoving}
use Rattle.groups.proofs.directory.Directory.move_all.Given as goal

abbrev pub invariant-loop-index : goal.invariant-loop-index
invariant-loop-index g l = IsMoving l.fn.self l.self l.guests l.head l.index
