use Rattle.audit.proofs.LogTable.{table_one}
use Rattle.audit.proofs.legal.table_of_legal.Goals as goal

pub returns-then-logs_are_legal : goal.returns-then-logs_are_legal
returns-then-logs_are_legal c =
    let is = c.in_ok-table.ensures {u = tt} in
    (record { one = table_one c.args.logs.now c.in-Some.table (rw c.in-Some.is at is); legal = c.logs_are_legal.ensures.0 c.if-logs_are_legal.true }, rw c.in-Some.is at is)
