use Rattle.groups.proofs.Tables.{remove-none}
use Rattle.groups.proofs.late_table.LateTable.remove.Goals as goal

pub returns-in_default-clause-entries : goal.returns-in_default-clause-entries
returns-in_default-clause-entries g c = rw (← c.self.view_is) (remove-none c.self.inside.table (λ table. table.value) c.in_default.is c.args.number)
