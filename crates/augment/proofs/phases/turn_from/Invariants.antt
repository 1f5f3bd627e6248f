use Rattle.std.proofs.Common.{◌≡◌, ◌+◌, length}
use Rattle.augment.specs.Walks.{IsWalk, unpassed}
use Rattle.augment.proofs.phases.turn_from.Given as goal

abbrev pub invariant-path : goal.invariant-path
invariant-path l = record {
  onto : l.mates.onto.items ≡ l.fn.mates.onto.items;
  planned : l.mates.planned.items ≡ l.fn.mates.planned.items;
  walk : IsWalk l.graph l.mates.onto.items l.path.items l.used.passed.items;
  places : length l.used.passed.items ≡ length l.fn.used.passed.items;
}

abbrev pub decreases-path : goal.decreases-path
decreases-path l = unpassed l.used.passed.items + unpassed l.used.passed.items + length l.path.items
