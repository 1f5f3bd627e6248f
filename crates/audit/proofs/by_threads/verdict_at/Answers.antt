use Rattle.std.proofs.Common.{◌∙◌, List, ap, map, slice_get, subst, sym}
use Rattle.span.specs.declared.receipt.Receipt.{Receipt}
use Rattle.span.specs.ReceiptLists.{kept_receipts}
use Rattle.audit.specs.Agreement.{IsInOrder}
use Rattle.audit.specs.Judged.{IsVerdict}
use Rattle.audit.specs.Tables.{full_row}
use Rattle.audit.proofs.Lists.{list_at}
use Rattle.audit.proofs.by_threads.verdict_at.Goals as goal

pub verdict_of-requires-clause-known : goal.verdict_of-requires-clause-known
verdict_of-requires-clause-known c = λ i r at makes.
    c.requires.changes.known c.args.w i r (ap (λ l. slice_get l i) (list_at kept_receipts IsInOrder c.args.lists.now c.args.w c.index-lists-w.result c.requires.inside c.index-lists-w.is) ∙ at) makes

pub returns : goal.returns
returns c = subst (λ (l : List Receipt). IsVerdict c.args.records.now.logs.now (map full_row c.args.records.now.sections.now) l c.verdict_of.result)
    (sym (list_at kept_receipts IsInOrder c.args.lists.now c.args.w c.index-lists-w.result c.requires.inside c.index-lists-w.is)) c.verdict_of.ensures
