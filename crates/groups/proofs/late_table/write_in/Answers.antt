use Rattle.std.proofs.Common.{rules}
use Rattle.std.specs.HashMap as hash
use Rattle.groups.proofs.Tables.{entries_of-insert, get-entries_of, unfound}
use Rattle.groups.proofs.late_table.write_in.Goals as goal

pub unreachable-requires : goal.unreachable-requires
unreachable-requires g c = search (rules, unfound)

pub returns-clause-entries : goal.returns-clause-entries
returns-clause-entries g c = search (rules, get-entries_of, entries_of-insert)
