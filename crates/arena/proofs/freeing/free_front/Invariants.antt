use Rattle.std.proofs.Common.{◌≤◌, ◌+◌, take}
use Rattle.arena.specs.Receipts.{AddsFrees}
use Rattle.arena.proofs.freeing.free_front.Given as goal

abbrev pub invariant-loop-done : goal.invariant-loop-done
invariant-loop-done g l = record {
  room : g.K.Receipts.room l.fn.receipts ≤ g.K.Receipts.room l.receipts + l.done;
  freed : AddsFrees l.worker l.section (take l.done l.keys) (g.K.Receipts.told l.fn.receipts) (g.K.Receipts.told l.receipts);
}
