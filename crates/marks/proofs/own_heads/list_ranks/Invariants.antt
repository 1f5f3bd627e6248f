use Rattle.std.proofs.Common.{◌≡◌, map, take}
use Rattle.marks.specs.Seen.{owned_entries}
use Rattle.marks.proofs.Ranks.{ranks_of}
use Rattle.marks.proofs.own_heads.list_ranks.Given as goal

abbrev pub invariant-loop-shard : goal.invariant-loop-shard
invariant-loop-shard g l = l.ranks.items ≡ ranks_of (owned_entries (map g.H.LendsShard.lent (take l.shard-index l.shards)))
