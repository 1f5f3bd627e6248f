use Rattle.shard.proofs.ListedSets.{AreChanged, IsEnough}
use Rattle.shard.proofs.set_lists.reserve_all.Given as goal

abbrev pub invariant-loop-at : goal.invariant-loop-at
invariant-loop-at l = AreChanged (IsEnough l.count) l.initial.sets.items l.sets.items l.at
