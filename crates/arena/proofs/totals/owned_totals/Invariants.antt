use Rattle.std.proofs.Common.{◌≡◌, map, option_map, take}
use Rattle.arena.specs.Amounts.{at_most_word, owned_keys, owned_pages}
use Rattle.arena.proofs.totals.owned_totals.Given as goal

abbrev pub invariant-loop-shard : goal.invariant-loop-shard
invariant-loop-shard g l = record {
  pages : l.pages ≡ at_most_word (owned_pages (map (option_map (λ shard. shard.guard.value.value)) (take l.shard-index l.shards)));
  live : l.live ≡ at_most_word (owned_keys (map (option_map (λ shard. shard.guard.value.value)) (take l.shard-index l.shards)));
}
