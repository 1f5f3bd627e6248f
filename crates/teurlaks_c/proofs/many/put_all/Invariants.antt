use Rattle.teurlaks_c.proofs.ManyCalls.{HasPut}
use Rattle.teurlaks_c.proofs.many.put_all.Given as goal

-- the first places are done
abbrev pub invariant-loop-place : goal.invariant-loop-place
invariant-loop-place l = HasPut l.initial.core l.shard l.words l.initial.keys l.place l.keys l.core
