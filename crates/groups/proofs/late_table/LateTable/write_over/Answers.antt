use Rattle.std.proofs.Common.{rules}
use Rattle.std.specs.FinMap as map
use Rattle.groups.proofs.Tables.{unfound-none}
use Rattle.groups.proofs.late_table.LateTable.write_over.Goals as goal

pub unreachable-requires : goal.unreachable-requires
unreachable-requires g c = search (rules, unfound-none)
