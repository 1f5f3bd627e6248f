use Rattle.groups.proofs.Tables.{entries_of-same}
use Rattle.groups.proofs.late_table.shrink_in.Goals as goal

pub returns-then-wanted-capacity-clause-entries : goal.returns-then-wanted-capacity-clause-entries
returns-then-wanted-capacity-clause-entries g c = entries_of-same c.args.table.now c.shrink_to.new.self c.shrink_to.ensures.entries.2
