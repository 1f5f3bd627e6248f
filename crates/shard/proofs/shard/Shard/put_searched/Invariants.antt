use Rattle.std.proofs.Common.{◌≡◌}
use Rattle.std.specs.FinSet.{len}
use Rattle.shard.specs.Kept.{IsKept, state_of}
use Rattle.shard.specs.Rooms.{rooms_of}
use Rattle.shard.proofs.shard.Shard.put_searched.Given as goal

abbrev pub invariant-loop-number : goal.invariant-loop-number
invariant-loop-number g l = record {
  kept : IsKept l.self-inside;
  same : state_of l.self-inside ≡ l.fn.self;
}

abbrev pub decreases-loop-number : goal.decreases-loop-number
decreases-loop-number g l = len (rooms_of l.self-inside.rooms l.class)
