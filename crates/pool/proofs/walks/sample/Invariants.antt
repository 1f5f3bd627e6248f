use Rattle.std.proofs.Common.{◌≡◌, ◌*◌, ◌+◌, ◌-◌, ◌≤◌, drop, length}
use Rattle.bitmap.specs.declared.bits.TheConstants.{SLOTS}
use Rattle.groups.specs.Group.{live_in, paged_in}
use Rattle.shard.specs.Spaced.{spaced}
use Rattle.pool.proofs.walks.sample.Given as goal

abbrev pub invariant-loop-index : goal.invariant-loop-index
invariant-loop-index g l = record {
  pages : l.pages + length (paged_in (spaced l.gap (drop l.index l.groups))) ≡ length (paged_in (spaced l.gap l.groups));
  live : l.live + live_in (paged_in (spaced l.gap (drop l.index l.groups))) ≡ live_in (paged_in (spaced l.gap l.groups));
  few : l.pages + (length l.groups - l.index) ≤ length l.groups;
  few_live : l.live + SLOTS * (length l.groups - l.index) ≤ SLOTS * length l.groups;
}

abbrev pub decreases-loop-index : goal.decreases-loop-index
decreases-loop-index g l = length l.groups - l.index
