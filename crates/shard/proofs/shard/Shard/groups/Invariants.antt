use Rattle.std.proofs.Common.{◌≡◌, map, take}
use Rattle.groups.specs.Group.{paged_in, summary}
use Rattle.shard.proofs.shard.Shard.groups.Given as goal

abbrev pub invariant-loop-index : goal.invariant-loop-index
invariant-loop-index g l = l.list.items ≡ map summary (paged_in (take l.index l.self-inside.groups.items))
