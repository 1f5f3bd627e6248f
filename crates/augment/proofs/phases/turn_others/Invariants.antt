use Rattle.std.proofs.Common.{◌≡◌, ◌≤◌, length}
use Rattle.augment.specs.Walks.{Joins, pair_count}
use Rattle.augment.proofs.phases.turn_others.Given as goal

abbrev pub invariant-loop-root : goal.invariant-loop-root
invariant-loop-root l = record {
  joins : Joins l.graph l.mates.onto.items;
  groups : length l.mates.onto.items ≡ length l.graph.abandoned;
  owned : length l.mates.planned.items ≡ length l.graph.owned;
  places : length l.used.passed.items ≡ length l.fn.used.passed.items;
  more : pair_count l.fn.mates.onto.items ≤ pair_count l.mates.onto.items;
}
