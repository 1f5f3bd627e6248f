use Rattle.std.proofs.Common.{◌≡◌, ◌++◌, drop, map, option_map, take}
use Rattle.marks.specs.Closings.{reopened}
use Rattle.arena.proofs.locks.reopen_all.Given as goal

abbrev pub invariant-loop-shard : goal.invariant-loop-shard
invariant-loop-shard g l =
    map (option_map (λ shard. shard.guard.value.value)) l.shards
    ≡ map (option_map reopened) (take l.shard-index (map (option_map (λ shard. shard.guard.value.value)) l.initial.shards))
    ++ drop l.shard-index (map (option_map (λ shard. shard.guard.value.value)) l.initial.shards)
