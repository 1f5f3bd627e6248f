use Rattle.std.proofs.Common.{map, take}
use Rattle.marks.specs.Apart.{AreWithin}
use Rattle.marks.specs.Seen.{owned_entries}
use Rattle.marks.proofs.own_heads.are_apart.Given as goal

abbrev pub invariant-loop-shard : goal.invariant-loop-shard
invariant-loop-shard g l = AreWithin 0 l.next (owned_entries (map g.H.LendsShard.lent (take l.shard-index l.shards)))
