use Rattle.std.proofs.Common.{◌≡◌, ◌≤◌, ◌*◌, length, take}
use Rattle.span.specs.declared.limits.TheConstants.{ALL_IDS}
use Rattle.shard.proofs.ChangedBelow.{changed_below}
use Rattle.arena_core.specs.Forgets.{dead_owned, without_dead_guests}
use Rattle.arena_core.proofs.machine.forgetting.forget_guests.Given as goal

abbrev pub invariant-loop-index : goal.invariant-loop-index
invariant-loop-index l = record {
  items : l.shards.items ≡ changed_below without_dead_guests l.index l.fn.shards.items;
  count : l.count ≡ length (dead_owned (take l.index l.fn.shards.items));
  most : l.count ≤ ALL_IDS * l.index;
}
