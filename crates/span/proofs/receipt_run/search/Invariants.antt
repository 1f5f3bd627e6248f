use Rattle.std.proofs.Common.{◌≡◌, ◌<◌, ◌≤◌, ◌-◌, Some, length, slice_get}
use Rattle.span.specs.declared.stored_receipt.ReceiptRun.{ReceiptRun}
use Rattle.span.proofs.receipt_run.search.Given as goal

abbrev pub invariant-loop-high : goal.invariant-loop-high
invariant-loop-high l = record {
  order : l.low < l.high;
  within : l.high ≤ length l.runs;
  from : (run : ReceiptRun) → slice_get l.runs l.low ≡ Some run → run.start ≤ l.place;
  to : (run : ReceiptRun) → slice_get l.runs l.high ≡ Some run → l.place < run.start;
}

abbrev pub decreases-loop-high : goal.decreases-loop-high
decreases-loop-high l = l.high - l.low
