use Rattle.std.proofs.Common.{◌≡◌, vec_capacity}
use Rattle.groups.specs.Dead.{without_dead}
use Rattle.groups.specs.Directory.{KnowsGuests}
use Rattle.shard.proofs.ChangedBelow.{changed_below}
use Rattle.pool.proofs.group_table.forget_all.Given as goal

abbrev pub invariant-loop-index : goal.invariant-loop-index
invariant-loop-index l = record {
  items : l.groups.items ≡ changed_below without_dead l.index l.fn.groups.items;
  capacity : vec_capacity l.groups ≡ vec_capacity l.fn.groups;
  known : KnowsGuests l.groups.items l.directory.entries;
  room : l.directory.room ≡ l.fn.directory.room;
}
