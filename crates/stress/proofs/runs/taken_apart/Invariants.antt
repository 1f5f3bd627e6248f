use Rattle.std.proofs.Common.{◌≡◌, ◌++◌, map}
use Rattle.std.specs.Vec.Iter.{into_iter_items}
use Rattle.stress.proofs.runs.taken_apart.Given as goal

abbrev pub invariant-loop-worker : goal.invariant-loop-worker
invariant-loop-worker l = map (λ seat. seat.table) l.seats.items ++ map (λ worker. worker.seat.table) (into_iter_items l.worker-iterator) ≡ map (λ worker. worker.seat.table) l.fn.workers.items
