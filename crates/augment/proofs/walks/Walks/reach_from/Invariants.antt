use Rattle.std.proofs.Common.{◌+◌, ◌-◌, length}
use Rattle.augment.specs.Walks.{unpassed}
use Rattle.augment.proofs.Steps.{IsReaching}
use Rattle.augment.proofs.walks.Walks.reach_from.Given as goal

abbrev pub invariant-partners : goal.invariant-partners
invariant-partners l = IsReaching l.graph l.mates.onto.items l.self.entries.items l.self.reached.passed.items l.at l.group l.from
    (length l.fn.self.entries.items + unpassed l.fn.self.reached.passed.items) (length l.graph.owned)

abbrev pub decreases-partners : goal.decreases-partners
decreases-partners l = length l.graph.owned - l.from
