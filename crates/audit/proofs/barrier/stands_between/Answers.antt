use Rattle.std.proofs.Common.{rules}
use Rattle.audit.proofs.Between.{stands-to}
use Rattle.audit.proofs.Lists.{row_at}
use Rattle.audit.proofs.LogTable.{table_one}
use Rattle.audit.proofs.barrier.stands_between.Goals as goal

pub returns-in-Some : goal.returns-in-Some
returns-in-Some c = search (rules, row_at, stands-to, table_one)

pub returns-in-None : goal.returns-in-None
returns-in-None c = search (rules)
