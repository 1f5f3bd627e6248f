use Rattle.std.proofs.Common.{◌≡◌, ◌≤◌, length, take}
use Rattle.groups.specs.Group.{paged_in}
use Rattle.shard.proofs.shard.Shard.pages.Given as goal

abbrev pub invariant-loop-index : goal.invariant-loop-index
invariant-loop-index g l = (l.pages ≡ length (paged_in (take l.index l.self-inside.groups.items))) × (l.pages ≤ l.index)
