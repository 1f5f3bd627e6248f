use Rattle.teurlaks_c.proofs.ManyCalls.{HasFreed}
use Rattle.teurlaks_c.proofs.many.free_all.Given as goal

-- the first keys are done
abbrev pub invariant-loop-raw : goal.invariant-loop-raw
invariant-loop-raw l = HasFreed l.initial.core l.keys l.raw-index l.count l.core
