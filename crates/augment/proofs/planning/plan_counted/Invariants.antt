use Rattle.std.proofs.Common.{◌≡◌, ◌≤◌, ◌-◌, length}
use Rattle.augment.specs.Walks.{Joins, pair_count}
use Rattle.augment.proofs.planning.plan_counted.Given as goal

abbrev pub invariant-phases : goal.invariant-phases
invariant-phases l = record {
  joins : Joins l.graph l.mates.onto.items;
  groups : length l.mates.onto.items ≡ length l.graph.abandoned;
  owned : length l.mates.planned.items ≡ length l.graph.owned;
  phases : l.phases ≤ pair_count l.mates.onto.items;
}

abbrev pub decreases-phases : goal.decreases-phases
decreases-phases l = length l.graph.abandoned - pair_count l.mates.onto.items
