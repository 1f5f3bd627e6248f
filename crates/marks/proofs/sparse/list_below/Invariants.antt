use Rattle.std.proofs.Common.{map, take}
use Rattle.pool.specs.Sparse.{AreParted}
use Rattle.marks.specs.Seen.{AreSound, owned_entries}
use Rattle.marks.proofs.sparse.list_below.Given as goal

abbrev pub invariant-loop-shard : goal.invariant-loop-shard
invariant-loop-shard g l = record {
  parted : AreParted l.bound (owned_entries (map g.H.LendsShard.lent (take l.shard-index l.shards))) l.entries.items;
  sound : AreSound (map g.H.LendsShard.lent (take l.shard-index l.shards));
}
