use Rattle.std.proofs.Common.{◌≡◌, map, take, option_map, Some}
use Rattle.arena.proofs.locks.lock_all.Given as goal

abbrev pub invariant-loop-shard : goal.invariant-loop-shard
invariant-loop-shard g l = map (option_map (λ shard. shard.guard.latch.now)) l.locked.items ≡ map Some (take l.shard-index l.shards)
