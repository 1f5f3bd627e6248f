use Rattle.std.proofs.Common.{◌≡◌}
use Rattle.groups.specs.Dead.{without_dead}
use Rattle.groups.specs.Directory.{KnowsGuests}
use Rattle.shard.specs.Guests.{KeepsRoom}
use Rattle.shard.specs.HeadWindow.{end_of}
use Rattle.shard.specs.Heads.{KnowsHeads, KnowsNoHeads}
use Rattle.shard.proofs.ChangedBelow.{changed_below}
use Rattle.shard.proofs.shard.forgetting.forget_each.Given as goal

abbrev pub invariant-loop-index : goal.invariant-loop-index
invariant-loop-index l = record {
  items : l.groups.items ≡ changed_below without_dead l.index l.fn.groups.items;
  capacity : l.groups.room ≡ l.fn.groups.room;
  known : KnowsGuests l.groups.items l.guests.directory.entries;
  room : l.guests.directory.room ≡ l.fn.guests.directory.room;
  spans : KeepsRoom l.fn.guests l.guests;
  noted : KnowsNoHeads l.number l.fn.groups.items l.guests.directory.entries l.heads;
  heads : KnowsHeads l.number l.fn.groups.items l.heads;
  end : end_of l.heads ≡ end_of l.fn.heads;
}
