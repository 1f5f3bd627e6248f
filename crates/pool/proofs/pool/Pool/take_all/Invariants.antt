use Rattle.std.proofs.Common.{length}
use Rattle.pool.proofs.Moving.{IsMoving}
use Rattle.pool.proofs.pool.Pool.take_all.Given as goal

abbrev pub invariant-loop-whole : goal.invariant-loop-whole
invariant-loop-whole g l = IsMoving l.initial.self l.initial.shard l.self l.shard

abbrev pub decreases-loop-whole : goal.decreases-loop-whole
decreases-loop-whole g l = length l.shard.groups
