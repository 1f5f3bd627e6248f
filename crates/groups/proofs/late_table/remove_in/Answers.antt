use Rattle.groups.proofs.Tables.{entries_of-remove}
use Rattle.groups.proofs.late_table.remove_in.Goals as goal

pub returns-clause-entries : goal.returns-clause-entries
returns-clause-entries g c = entries_of-remove c.args.table.now c.remove.new.self c.args.number c.remove.ensures.updates
