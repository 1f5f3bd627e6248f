use Rattle.std.proofs.Common.{ℕ, ◌≡◌, ◌<◌, [], Some, map, get_or, slice_get}
use Rattle.span.specs.declared.receipt.Receipt.{Receipt}
use Rattle.span.specs.ReceiptLists.{kept_receipts}
use Rattle.audit.specs.Tables.{StandsBetween, full_row}
use Rattle.audit.proofs.barrier.sections_are_in_order.Given as goal

abbrev pub invariant-loop-list : goal.invariant-loop-list
invariant-loop-list l = (w : ℕ) → w < l.list-index → (i : ℕ) (receipt : Receipt) → slice_get (get_or (map kept_receipts l.lists) w []) i ≡ Some receipt
    → StandsBetween l.logs (map full_row l.rows) receipt
