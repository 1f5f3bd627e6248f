use Rattle.std.proofs.Common.{◌≡◌, ◌∙◌, ◌++◌, ◌∷◌, [], Some, map, set, slice_get, sym, subst, arith}
use Rattle.span.specs.ReceiptViews.{receipt_viewed}
use Rattle.audit.specs.Tables.{AreEntered, filled_row}
use Rattle.audit.proofs.Entered.{AreEntered-quiet, AreEntered-more, entered_by, entered_twice, row_inside, rows_set, unknown_last}
use Rattle.audit.proofs.Lists.{row_at}
use Rattle.audit.proofs.LogTable.{table_one}
use Rattle.audit.proofs.change.enter.Goals as goal

pub returns-then-not-makes_change-clause-entered : goal.returns-then-not-makes_change-clause-entered
returns-then-not-makes_change-clause-entered c before are =
    AreEntered-quiet c.args.logs.now before (receipt_viewed c.args.receipt.now) (sym c.makes_change.ensures ∙ c.if-not-makes_change.true) (map filled_row c.args.rows.now.items) are

pub returns-in-Some-clause-entered : goal.returns-in-Some-clause-entered
returns-in-Some-clause-entered c before are =
    let logs = c.args.logs.now in
    let rows = map filled_row c.args.rows.now.items in
    let r = receipt_viewed c.args.receipt.now in
    let row = c.index_mut.result.now in
    let told = (c.in-Some.ensures {u = tt}).known in
    let makes = sym c.makes_change.ensures ∙ c.if-not-makes_change.false in
    let one = table_one logs c.args.table.now c.requires.table in
    let at : slice_get rows c.in-Some.j ≡ Some (filled_row row) =
    row_at filled_row c.args.rows.now.items c.in-Some.j row (omega (arith, (c.in-Some.ensures {u = tt}).within, c.requires.len, c.args.rows.now.ok.0)) c.index_mut.ensures.value in
    entered_by logs (before ++ r ∷ []) (map filled_row (set c.args.rows.now.items c.in-Some.j c.mark.new.row)) c.mark.result
    (λ yes.
    let marked = c.mark.ensures.marked yes in
    subst (AreEntered logs (before ++ r ∷ [])) (sym (rows_set filled_row c.args.rows.now.items c.in-Some.j c.mark.new.row (set (filled_row row) r.at (Some r.section)) marked.2))
    (AreEntered-more logs before rows r are makes told.1 c.in-Some.j told.0.0 (filled_row row) told.0.1 told.0.2 at one marked.1 marked.0))
    (λ no.
    let inside = row_inside logs before rows r are c.in-Some.j told.0 (filled_row row) at told.2 in
    let taken = c.mark.ensures.taken no inside in
    entered_twice logs before rows r are makes told.1 c.in-Some.j told.0.0 (filled_row row) told.0.1 told.0.2 at one taken.0 taken.1)

pub returns-in-None-clause-entered : goal.returns-in-None-clause-entered
returns-in-None-clause-entered c before are = unknown_last c.args.logs.now before (receipt_viewed c.args.receipt.now) ((c.in-None.ensures {u = tt}).known)
