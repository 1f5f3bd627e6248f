use Rattle.std.proofs.Common.{ℕ, ◌≡◌, ◌<◌, Some, slice_get}
use Rattle.span.specs.ReceiptLists.{kept_receipts}
use Rattle.span.specs.declared.receipt.Receipt.{Receipt}
use Rattle.audit.specs.Agreement.{IsRightReply}
use Rattle.audit.proofs.reply.list_is_right.Given as goal

abbrev pub invariant-loop-i : goal.invariant-loop-i
invariant-loop-i l = (k : ℕ) (receipt : Receipt) → k < l.i → slice_get (kept_receipts l.list) k ≡ Some receipt → IsRightReply l.logs receipt
