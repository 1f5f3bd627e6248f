use Rattle.std.proofs.Common.{◌≡◌}
use Rattle.stress.proofs.worker.Worker.work.Given as goal

abbrev pub invariant-loop-turn : goal.invariant-loop-turn
invariant-loop-turn g l = l.self.seat.table ≡ l.fn.self.seat.table
