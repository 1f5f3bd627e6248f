use Rattle.groups.proofs.Tables.{entries_of-same}
use Rattle.groups.proofs.late_table.reserve_in.Goals as goal

pub returns-clause-entries : goal.returns-clause-entries
returns-clause-entries g c = entries_of-same c.args.table.now c.reserve.new.self c.reserve.ensures.entries.2
