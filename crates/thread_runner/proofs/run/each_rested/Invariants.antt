use Rattle.thread_runner.proofs.Names.{◌+◌, AreKnown, AreResting}
use Rattle.thread_runner.proofs.run.each_rested.Given as goal

-- the threads so far
abbrev pub invariant-loop-worker : goal.invariant-loop-worker
invariant-loop-worker g l = AreResting g.J.Reading.lines g.J.Reading.shown g.J.Reading.table (AreKnown g.K.Known.kept l.latest.items) (g.K.Known.section + 1) l.threads.items
