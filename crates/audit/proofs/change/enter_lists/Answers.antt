use Rattle.std.proofs.Common.{◌≡◌, Some, length, flat_map, take, slice_get, refl}
use Rattle.std.proofs.lemmas.Option.{slice_get_read}
use Rattle.span.specs.ReceiptLists.{kept_receipts}
use Rattle.audit.proofs.Entered.{flat_unknown}
use Rattle.audit.proofs.change.enter_lists.Goals as goal

pub returns-then-not-enter_list-clause-entered : goal.returns-then-not-enter_list-clause-entered
returns-then-not-enter_list-clause-entered c =
    let lists = c.args.lists.now in
    let list = c.list-item.result in
    let n = c.loop-list.list-index in
    let at : slice_get lists n ≡ Some list = slice_get_read lists (length lists) n list refl c.loop-list-test.true c.list-item.is in
    flat_unknown kept_receipts lists n list at c.args.logs.now ((c.if-not-enter_list.ensures {u = tt}).entered (flat_map kept_receipts (take n lists)) c.loop-list.invariant.entered)
