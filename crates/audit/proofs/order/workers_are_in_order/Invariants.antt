use Rattle.std.proofs.Common.{ℕ, ◌≡◌, ◌+◌, ◌<◌, [], length, map, vec_len, slice_index_or}
use Rattle.span.specs.ReceiptLists.{kept_receipts}
use Rattle.audit.specs.Agreement.{IsInOrder}
use Rattle.audit.specs.Order.{IsClear}
use Rattle.audit.proofs.order.workers_are_in_order.Given as goal

abbrev pub invariant-loop-list : goal.invariant-loop-list
invariant-loop-list l = record {
  below : (w : ℕ) → w < l.list-index → IsInOrder (slice_index_or (map kept_receipts l.lists) w []);
  clear : IsClear l.left.items;
  len : vec_len l.left ≡ length l.logs + 1;
}
