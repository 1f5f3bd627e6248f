use Rattle.std.proofs.Common.{◌≡◌, ◌+◌, length, vec_len}
use Rattle.span.specs.ReceiptLists.{kept_receipts}
use Rattle.audit.specs.Order.{IsLeftFrom}
use Rattle.audit.proofs.order.clear.Given as goal

abbrev pub invariant-loop-i : goal.invariant-loop-i
invariant-loop-i l = record { left : IsLeftFrom l.logs (kept_receipts l.list) l.i l.left.items; len : vec_len l.left ≡ length l.logs + 1 }
