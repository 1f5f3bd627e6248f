use Rattle.thread_runner.proofs.Names.{map, vec_items, map-append}
use Rattle.thread_runner.proofs.Places.{AreLaid-none}
use Rattle.thread_runner.proofs.layout.empty_lists.Goals as goal

pub loop-preserved : goal.loop-preserved
loop-preserved c = rw (c.in_ok-push.ensures.items, map-append, c.new.ensures.items) (AreLaid-none (map vec_items c.loop.lists.items) c.loop.invariant)
