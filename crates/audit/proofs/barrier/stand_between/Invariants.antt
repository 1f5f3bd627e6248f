use Rattle.std.proofs.Common.{ℕ, ◌≡◌, ◌<◌, Some, map, slice_get}
use Rattle.span.specs.ReceiptLists.{kept_receipts}
use Rattle.span.specs.declared.receipt.Receipt.{Receipt}
use Rattle.audit.specs.Tables.{StandsBetween, full_row}
use Rattle.audit.proofs.barrier.stand_between.Given as goal

abbrev pub invariant-loop-i : goal.invariant-loop-i
invariant-loop-i l = (k : ℕ) (receipt : Receipt) → k < l.i → slice_get (kept_receipts l.list) k ≡ Some receipt → StandsBetween l.logs (map full_row l.rows) receipt
