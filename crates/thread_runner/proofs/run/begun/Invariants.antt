use Rattle.thread_runner.proofs.Names.{into_iter_items, AreKept, AreResting}
use Rattle.thread_runner.proofs.run.begun.Given as goal

-- the threads that are left
abbrev pub invariant-loop-one : goal.invariant-loop-one
invariant-loop-one g l = AreResting g.J.Reading.lines g.J.Reading.shown g.J.Reading.table (AreKept g.K.Known.kept) g.K.Known.section (into_iter_items l.one-iterator)
