use Rattle.thread_runner.proofs.Names.{map, take, vec_items, AreLaid}
use Rattle.thread_runner.proofs.layout.places_by_thread.Given as goal

abbrev pub invariant-loop-place : goal.invariant-loop-place
invariant-loop-place l = AreLaid (take l.place l.lines.items) (map vec_items l.places.items)
