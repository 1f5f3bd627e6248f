use Rattle.std.proofs.Common.{◌≡◌}
use Rattle.arena.proofs.gathering.gather_in.Given as goal

abbrev pub invariant-loop-index : goal.invariant-loop-index
invariant-loop-index g l = l.shard ≡ l.fn.shard
