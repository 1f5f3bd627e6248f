use Rattle.std.proofs.Common.{◌≡◌, ◌≤◌, ◌+◌, ◌-◌, length}
use Rattle.augment.specs.Walks.{unpassed, IsSearch}
use Rattle.augment.proofs.phases.turn_phase.Given as goal

abbrev pub invariant-entries : goal.invariant-entries
invariant-entries l = record {
  onto : l.mates.onto.items ≡ l.fn.mates.onto.items;
  planned : l.mates.planned.items ≡ l.fn.mates.planned.items;
  search : IsSearch l.graph l.mates.onto.items l.walks.entries.items l.walks.reached.passed.items l.next;
  places : length l.walks.reached.passed.items ≡ length l.graph.owned;
  next_in : l.next ≤ length l.walks.entries.items;
}

abbrev pub decreases-entries : goal.decreases-entries
decreases-entries l = (length l.walks.entries.items - l.next) + unpassed l.walks.reached.passed.items
