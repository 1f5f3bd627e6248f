use Rattle.std.proofs.Common.{◌≡◌, map, take}
use Rattle.marks.specs.Seen.{AreSound, owned_entries}
use Rattle.marks.proofs.marking.list_owned.Given as goal

abbrev pub invariant-loop-shard : goal.invariant-loop-shard
invariant-loop-shard g l = record {
  items : l.entries.items ≡ owned_entries (map g.H.LendsShard.lent (take l.shard-index l.shards));
  sound : AreSound (map g.H.LendsShard.lent (take l.shard-index l.shards));
}
