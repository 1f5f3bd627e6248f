use Rattle.std.proofs.Common.{◌≡◌, ◌++◌, drop, map, option_map, take}
use Rattle.arena.specs.Amounts.{at_most_word}
use Rattle.arena.specs.LentForgets.{dead_of_all, without_dead_guests}
use Rattle.arena.proofs.locks.forget_all.Given as goal

abbrev pub invariant-loop-shard : goal.invariant-loop-shard
invariant-loop-shard l = record {
  shards : map (option_map (λ shard. shard.guard.value.value)) l.shards
      ≡ map (option_map without_dead_guests) (take l.shard-index (map (option_map (λ shard. shard.guard.value.value)) l.initial.shards))
      ++ drop l.shard-index (map (option_map (λ shard. shard.guard.value.value)) l.initial.shards);
  count : l.forgotten ≡ at_most_word (dead_of_all (take l.shard-index (map (option_map (λ shard. shard.guard.value.value)) l.initial.shards)));
}
