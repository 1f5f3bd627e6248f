use Rattle.std.proofs.Common.{rules}
use Rattle.audit.proofs.LogTable.{log_items}
use Rattle.audit.proofs.change.log_with_change.Goals as goal

pub returns-else-makes_at-clause-known : goal.returns-else-makes_at-clause-known
returns-else-makes_at-clause-known c known = search (rules, log_items)
