use Rattle.groups.proofs.Tables.{empty-made}
use Rattle.groups.proofs.late_table.LateTable.is_empty.Goals as goal

pub returns-in-Some : goal.returns-in-Some
returns-in-Some g c = rw (← c.self.view_is)
    (empty-made c.self.inside.table (λ table. table.value) c.in-Some.table c.in-Some.is c.deref.result.now c.deref.ensures c.is_empty.result c.is_empty.ensures)
