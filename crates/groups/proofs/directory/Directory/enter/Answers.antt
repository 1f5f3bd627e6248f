use Rattle.std.proofs.Common.{refl}
use Rattle.groups.proofs.Entries.{same_directory}
use Rattle.groups.proofs.directory.Directory.enter.Goals as goal

pub returns : goal.returns
returns c = rw (← c.self.view_is, ← c.rank.ensures.value) (same_directory _ _ c.insert_reserved.ensures.entries refl)
