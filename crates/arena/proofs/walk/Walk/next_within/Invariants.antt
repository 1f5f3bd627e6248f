use Rattle.std.proofs.Common.{◌≤◌}
use Rattle.arena.specs.Walks.{HasGoneOn}
use Rattle.arena.proofs.walk.Walk.next_within.Given as goal

abbrev pub invariant-loop-shard : goal.invariant-loop-shard
invariant-loop-shard g l = (l.self.shard ≤ l.shard) × HasGoneOn l.fn.self l.self
