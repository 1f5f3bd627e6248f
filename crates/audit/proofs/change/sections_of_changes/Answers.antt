use Rattle.std.proofs.Common.{rules}
use Rattle.audit.proofs.Rows.{all_full}
use Rattle.audit.proofs.Entered.{changes_have, AreFull-from, MakeChanges-from}
use Rattle.audit.proofs.LogTable.{table_one}
use Rattle.audit.proofs.change.sections_of_changes.Goals as goal

pub returns-in_ok-full_rows-clause-entered : goal.returns-in_ok-full_rows-clause-entered
returns-in_ok-full_rows-clause-entered c = search (rules, all_full, changes_have)

pub returns-else-enter_lists-clause-entered : goal.returns-else-enter_lists-clause-entered
returns-else-enter_lists-clause-entered c all = search (rules, table_one, AreFull-from, MakeChanges-from)
