use Rattle.std.proofs.Common.{◌≡◌, ◌+◌, length, vec_len}
use Rattle.span.specs.ReceiptLists.{kept_receipts}
use Rattle.audit.specs.Order.{IsLeftBelow}
use Rattle.audit.proofs.Orderly.{IsInOrderBelow}
use Rattle.audit.proofs.order.is_in_order.Given as goal

abbrev pub invariant-loop-i : goal.invariant-loop-i
invariant-loop-i l = record { below : IsInOrderBelow (kept_receipts l.list) l.i; left : IsLeftBelow l.logs (kept_receipts l.list) l.i l.left.items; len : vec_len l.left ≡ length l.logs + 1 }
