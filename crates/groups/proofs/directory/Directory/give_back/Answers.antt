use Rattle.std.proofs.Common.{refl}
use Rattle.groups.proofs.Entries.{same_directory}
use Rattle.groups.proofs.directory.Directory.give_back.Goals as goal

pub returns : goal.returns
returns c = rw (← c.self.view_is) (same_directory _ _ c.give_back.ensures.entries refl)
