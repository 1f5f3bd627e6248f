use Rattle.thread_runner.proofs.Names.{◌+◌, ◌∷◌, [], each-append, AreKnown, IsResting}
use Rattle.thread_runner.proofs.Following.{AreResting-known}
use Rattle.thread_runner.proofs.run.each_rested.Goals as goal

pub loop-worker-preserved : goal.loop-worker-preserved
loop-worker-preserved g c =
    let kept = g.K.Known.kept in
    let next = g.K.Known.section + 1 in
    let new = c.rested.new.latest.items in
    rw c.in_ok-push.ensures.items
    (each-append (IsResting g.J.Reading.lines g.J.Reading.shown g.J.Reading.table (AreKnown kept new) next) c.loop-worker.threads.items (c.in_ok-rested.field-0 ∷ [])
    (AreResting-known g.J.Reading.lines g.J.Reading.shown g.J.Reading.table (AreKnown kept c.loop-worker.latest.items) (AreKnown kept new) next c.loop-worker.threads.items
    (λ given known. (known.0, c.in_ok-rested.ensures.before given known.1)) c.loop-worker.invariant) (c.in_ok-rested.ensures.rests, tt))
