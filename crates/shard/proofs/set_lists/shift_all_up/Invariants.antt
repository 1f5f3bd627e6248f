use Rattle.shard.specs.Rooms.{IsShiftedUp}
use Rattle.shard.proofs.ListedSets.{AreChanged}
use Rattle.shard.proofs.set_lists.shift_all_up.Given as goal

abbrev pub invariant-loop-at : goal.invariant-loop-at
invariant-loop-at l = AreChanged (IsShiftedUp l.index) l.initial.sets.items l.sets.items l.at
