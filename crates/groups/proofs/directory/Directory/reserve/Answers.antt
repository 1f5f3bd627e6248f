use Rattle.std.proofs.Common.{refl}
use Rattle.groups.proofs.Maps.{at_err}
use Rattle.groups.proofs.Entries.{same_directory}
use Rattle.groups.proofs.directory.Directory.reserve.Goals as goal

pub returns-in_err-reserve-clause-err : goal.returns-in_err-reserve-clause-err
returns-in_err-reserve-clause-err c = at_err c.from_residual.result (rw (← c.self.view_is) (same_directory _ _ c.reserve.ensures.entries refl))

pub returns-clause-ok : goal.returns-clause-ok
returns-clause-ok c = rw (← c.self.view_is) (same_directory _ _ c.reserve.ensures.entries c.max-self-inside.ensures)
