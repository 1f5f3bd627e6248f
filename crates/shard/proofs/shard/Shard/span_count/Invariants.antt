use Rattle.std.proofs.Common.{◌≡◌, ◌≤◌, length, take}
use Rattle.groups.specs.Group.{spans_in}
use Rattle.span.specs.declared.limits.TheConstants.{ALL_IDS}
use Rattle.shard.proofs.shard.Shard.span_count.Given as goal

abbrev pub invariant-loop-index : goal.invariant-loop-index
invariant-loop-index g l = (l.count ≡ length (spans_in (take l.index l.self-inside.groups.items))) × (length (spans_in l.self-inside.groups.items) ≤ ALL_IDS)
