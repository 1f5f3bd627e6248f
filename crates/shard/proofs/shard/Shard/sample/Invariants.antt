use Rattle.std.proofs.Common.{◌≡◌, ◌*◌, ◌+◌, ◌-◌, ◌≤◌, drop, length}
use Rattle.bitmap.specs.declared.bits.TheConstants.{SLOTS}
use Rattle.groups.specs.Group.{live_in, paged_in}
use Rattle.shard.specs.Spaced.{spaced}
use Rattle.shard.proofs.shard.Shard.sample.Given as goal

abbrev pub invariant-loop-index : goal.invariant-loop-index
invariant-loop-index g l = record {
  pages : l.pages + length (paged_in (spaced l.gap (drop l.index l.self-inside.groups.items))) ≡ length (paged_in (spaced l.gap l.self-inside.groups.items));
  live : l.live + live_in (spaced l.gap (drop l.index l.self-inside.groups.items)) ≡ live_in (spaced l.gap l.self-inside.groups.items);
  few : l.pages + (length l.self-inside.groups.items - l.index) ≤ length l.self-inside.groups.items;
  few_live : l.live + SLOTS * (length l.self-inside.groups.items - l.index) ≤ SLOTS * length l.self-inside.groups.items;
}

abbrev pub decreases-loop-index : goal.decreases-loop-index
decreases-loop-index g l = length l.self-inside.groups.items - l.index
