use Rattle.std.proofs.Common.{◌≡◌, flat_map, map, take, vec_len}
use Rattle.span.specs.ReceiptLists.{kept_receipts}
use Rattle.audit.specs.Tables.{AreEntered, filled_row}
use Rattle.audit.proofs.change.enter_lists.Given as goal

abbrev pub invariant-loop-list : goal.invariant-loop-list
invariant-loop-list l = record {
  len : vec_len l.rows ≡ vec_len l.initial.rows;
  entered : AreEntered l.logs (flat_map kept_receipts (take l.list-index l.lists)) (map filled_row l.rows.items);
}
