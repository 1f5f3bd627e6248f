use Rattle.std.proofs.Common.{◌≡◌, take, sum}
use Rattle.arena.proofs.settling.total.Given as goal

abbrev pub invariant-loop-count : goal.invariant-loop-count
invariant-loop-count l = l.all ≡ sum (take l.count-index l.counts)
