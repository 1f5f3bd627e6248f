use Rattle.std.proofs.Common.{◌≡◌, ◌++◌, map}
use Rattle.std.specs.Vec.Iter.{into_iter_items}
use Rattle.stress.proofs.runs.workers_of.Given as goal

abbrev pub invariant-loop-seat : goal.invariant-loop-seat
invariant-loop-seat l = map (λ worker. worker.seat.table) l.workers.items ++ map (λ seat. seat.table) (into_iter_items l.seat-iterator) ≡ map (λ seat. seat.table) l.fn.seats.items
