use Rattle.std.proofs.Common.{◌≡◌, map}
use Rattle.stress.proofs.runs.all_sections.Given as goal

abbrev pub invariant-loop-number : goal.invariant-loop-number
invariant-loop-number g l = map (λ worker. worker.seat.table) l.workers.items ≡ map (λ worker. worker.seat.table) l.initial.workers.items
