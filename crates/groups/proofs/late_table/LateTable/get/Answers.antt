use Rattle.std.proofs.Common.{sym, rules}
use Rattle.groups.proofs.Tables.{get-made, get-none}
use Rattle.groups.proofs.late_table.LateTable.get.Goals as goal

pub returns-in-Some : goal.returns-in-Some
returns-in-Some g c = search (rules, get-made)

pub returns-in-None : goal.returns-in-None
returns-in-None g c = rw (← c.self.view_is) (sym (get-none c.self.inside.table (λ table. table.value) c.in-None.is c.args.number))
