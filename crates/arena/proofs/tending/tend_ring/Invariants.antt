use Rattle.std.proofs.Common.{◌≤◌, ◌+◌, length}
use Rattle.arena.specs.Tended.{IsRingTended}
use Rattle.arena.proofs.tending.tend_ring.Given as goal

abbrev pub invariant-loop : goal.invariant-loop
invariant-loop g l = record {
  few : l.count ≤ l.most;
  room : g.K.Receipts.room l.fn.receipts ≤ g.K.Receipts.room l.receipts + l.count;
  known : length l.fn.inbox.known ≤ length l.inbox.known + l.count;
  tended : IsRingTended l.worker l.section l.count l.fn.inbox l.inbox (g.K.Receipts.told l.fn.receipts) (g.K.Receipts.told l.receipts);
}
