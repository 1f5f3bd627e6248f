use Rattle.shard.specs.Rooms.{IsShiftedDown}
use Rattle.shard.proofs.ListedSets.{AreChanged}
use Rattle.shard.proofs.set_lists.shift_all_down.Given as goal

abbrev pub invariant-loop-at : goal.invariant-loop-at
invariant-loop-at l = AreChanged (IsShiftedDown l.index) l.initial.sets.items l.sets.items l.at
