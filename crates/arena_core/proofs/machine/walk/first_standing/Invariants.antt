use Rattle.std.proofs.Common.{take}
use Rattle.span.specs.Ids.{rank}
use Rattle.arena_core.specs.NextLive.{IsFirstStanding}
use Rattle.arena_core.proofs.machine.walk.first_standing.Given as goal

abbrev pub invariant-loop-shard : goal.invariant-loop-shard
invariant-loop-shard g l = IsFirstStanding (take l.shard-index l.shards) l.pool (rank l.from) l.first
