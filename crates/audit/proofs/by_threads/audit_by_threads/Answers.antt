use Rattle.std.proofs.Common.{map}
use Rattle.std.proofs.lemmas.Option.{MatchOption-at_none}
use Rattle.span.specs.ReceiptLists.{kept_receipts}
use Rattle.audit.proofs.Histories.{have_histories}
use Rattle.audit.proofs.by_threads.audit_by_threads.Goals as goal

pub returns-in-Ok-None-clause-histories : goal.returns-in-Ok-None-clause-histories
returns-in-Ok-None-clause-histories g c =
    have_histories c.args.logs.now (map kept_receipts c.args.receipts.now) (MatchOption-at_none _ _ c.in-Ok-None.field-0-is c.in-Ok-None.ensures)
