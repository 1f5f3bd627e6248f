use Rattle.std.proofs.Common.{◌≡◌, ◌∙◌, ◌-◌, ℕ, Some, List, length, slice_get, sym, subst, ap, rules}
use Rattle.std.proofs.lemmas.Option.{slice_get_within}
use Rattle.span.specs.StoredReceipts.{HasPlace, HasCall, receipt_in}
use Rattle.span.specs.declared.stored_receipt.ReceiptRun.{ReceiptRun}
use Rattle.span.proofs.KeptReceipts.{FoundRun-at, first_low}
use Rattle.span.proofs.receipt_list.ReceiptList.receipt.Goals as goal

pub run_at-requires-clause-first : goal.run_at-requires-clause-first
run_at-requires-clause-first c first at =
    let list = c.args.self.now in
    first_low list.words.items (length list.words.items) list.len c.args.place list.runs.items first list.runs_are (subst (λ (l : List ReceiptRun). slice_get l 0 ≡ Some first) c.as_slice.ensures.value at)

pub index-run-requires : goal.index-run-requires
index-run-requires c = search (rules, slice_get_within)

pub overflow_sub-place : goal.overflow_sub-place
overflow_sub-place c =
    let list = c.args.self.now in
    let has = subst (λ (l : List ReceiptRun). HasPlace l c.args.place c.run_at.result) c.as_slice.ensures.value c.run_at.ensures in
    (FoundRun-at list.words.items list.len c.args.place c.run_at.result list.runs.items c.index-run.result.now list.runs_are c.requires has c.index-run.ensures).from

pub receipt_of-requires : goal.receipt_of-requires
receipt_of-requires c =
    let list = c.args.self.now in
    let has = subst (λ (l : List ReceiptRun). HasPlace l c.args.place c.run_at.result) c.as_slice.ensures.value c.run_at.ensures in
    let found = FoundRun-at list.words.items list.len c.args.place c.run_at.result list.runs.items c.index-run.result.now list.runs_are c.requires has c.index-run.ensures in
    subst (λ (l : List ℕ). HasCall (length l) c.index-run.result.now (c.args.place - c.index-run.result.now.start)) (sym c.as_slice-2.ensures.value) found.within

pub returns : goal.returns
returns c =
    let list = c.args.self.now in
    let has = subst (λ (l : List ReceiptRun). HasPlace l c.args.place c.run_at.result) c.as_slice.ensures.value c.run_at.ensures in
    let found = FoundRun-at list.words.items list.len c.args.place c.run_at.result list.runs.items c.index-run.result.now list.runs_are c.requires has c.index-run.ensures in
    found.at ∙ ap (λ l. Some (receipt_in l c.index-run.result.now (c.args.place - c.index-run.result.now.start))) (sym c.as_slice-2.ensures.value) ∙ ap Some (sym c.receipt_of.ensures)
