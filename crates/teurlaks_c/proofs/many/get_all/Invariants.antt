use Rattle.teurlaks_c.proofs.ManyCalls.{HasGot}
use Rattle.teurlaks_c.proofs.many.get_all.Given as goal

-- the first places are done
abbrev pub invariant-loop-place : goal.invariant-loop-place
invariant-loop-place l = HasGot l.core l.keys l.initial.replies l.place l.replies
