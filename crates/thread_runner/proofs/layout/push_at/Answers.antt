use Rattle.thread_runner.proofs.Names.{map, vec_items, length-map, map-set}
use Rattle.thread_runner.proofs.Places.{AddsAt-none, AddsAt-set, slice_get-items}
use Rattle.thread_runner.proofs.layout.push_at.Goals as goal

pub returns-in_ok-push : goal.returns-in_ok-push
returns-in_ok-push c =
    let here = slice_get-items c.args.lists.now c.args.thread c.index-lists-thread.result c.if-thread-lists.true c.index-lists-thread.is in
    rw map-set (AddsAt-set c.args.thread c.args.place (map vec_items c.args.lists.now) c.index-lists-thread.result.items c.push.new.self.items here
    (rw (← c.index-lists-thread.is) at c.in_ok-push.ensures.items))

pub returns-else-thread-lists : goal.returns-else-thread-lists
returns-else-thread-lists c = AddsAt-none c.args.thread c.args.place (map vec_items c.args.lists.now) (rw length-map c.if-thread-lists.false)
