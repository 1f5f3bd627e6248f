use Rattle.groups.proofs.Tables.{entries_of-insert}
use Rattle.groups.proofs.late_table.insert_in.Goals as goal

pub returns-clause-entries : goal.returns-clause-entries
returns-clause-entries g c = entries_of-insert c.args.table.now c.insert.new.self c.args.number c.args.item c.in-Ok.ensures.updates
