use Rattle.std.proofs.Common.{◌≡◌, ◌++◌, List, map, take, vec_len}
use Rattle.span.specs.ReceiptLists.{kept_receipts}
use Rattle.span.specs.declared.receipt.Receipt.{Receipt}
use Rattle.audit.specs.Tables.{AreEntered, filled_row}
use Rattle.audit.proofs.change.enter_list.Given as goal

abbrev pub invariant-loop-i : goal.invariant-loop-i
invariant-loop-i l = record {
  len : vec_len l.rows ≡ vec_len l.initial.rows;
  entered : (before : List Receipt) → AreEntered l.logs before (map filled_row l.initial.rows.items) → AreEntered l.logs (before ++ take l.i (kept_receipts l.list)) (map filled_row l.rows.items);
}
