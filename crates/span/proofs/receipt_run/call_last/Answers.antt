use Rattle.std.proofs.Common.{rules}
use Rattle.span.proofs.KeptReceipts.{with_last_call-set}
use Rattle.span.proofs.receipt_run.call_last.Goals as goal

pub returns-clause-items : goal.returns-clause-items
returns-clause-items c = search (rules, with_last_call-set)
