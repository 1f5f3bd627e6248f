use Rattle.thread_runner.proofs.Names.{◌+◌, subst, AreKept, AreKnown}
use Rattle.thread_runner.proofs.Following.{AreResting-known}
use Rattle.thread_runner.proofs.run.all_rested.Goals as goal

pub returns : goal.returns
returns g c = AreResting-known g.J.Reading.lines g.J.Reading.shown g.J.Reading.table (AreKnown g.K.Known.kept c.in_ok-threads.latest.items)
    (AreKept c.in_ok-with.field-0.kept.items) (g.K.Known.section + 1) c.in_ok-threads.threads.items
    (λ given are. (subst (λ k. AreKept k given) c.requires (c.in_ok-with.ensures.before given are), c.in_ok-with.ensures.kept given are)) c.in_ok-threads.ensures
