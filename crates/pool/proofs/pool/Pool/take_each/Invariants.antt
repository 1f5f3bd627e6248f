use Rattle.pool.proofs.Retiring.{IsRetiring}
use Rattle.pool.proofs.pool.Pool.take_each.Given as goal

abbrev pub invariant-loop-one : goal.invariant-loop-one
invariant-loop-one g l = IsRetiring l.initial.self l.initial.shard l.going l.one-index l.self l.shard
