use Rattle.std.proofs.Common.{◌≡◌}
use Rattle.arena_core.proofs.machine.gathering.gather_some.Given as goal

abbrev pub invariant-loop-index : goal.invariant-loop-index
invariant-loop-index g l = l.shard ≡ l.fn.shard
