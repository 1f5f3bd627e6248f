use Rattle.std.proofs.Common.{refl, rules}
use Rattle.std.specs.FinMap as map
use Rattle.groups.proofs.Entries.{same_directory}
use Rattle.groups.proofs.directory.Directory.move_to.Goals as goal

pub write_over-requires : goal.write_over-requires
write_over-requires c = search rules

pub returns : goal.returns
returns c = rw (← c.self.view_is, ← c.rank.ensures.value) (same_directory _ _ c.write_over.ensures.entries refl)
