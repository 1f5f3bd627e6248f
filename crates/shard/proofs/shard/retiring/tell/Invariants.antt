use Rattle.std.proofs.Common.{◌≡◌, map, take}
use Rattle.shard.specs.Sparse.{told_of}
use Rattle.shard.proofs.shard.retiring.tell.Given as goal

abbrev pub invariant-loop-index : goal.invariant-loop-index
invariant-loop-index g l = l.told.items ≡ map told_of (take l.index l.groups.items)
