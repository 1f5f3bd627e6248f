use Rattle.std.proofs.Common.{◌≡◌, length}
use Rattle.augment.proofs.Turning.{IsTurning}
use Rattle.augment.proofs.walks.turn_round.Given as goal

abbrev pub invariant-walk : goal.invariant-walk
invariant-walk l = IsTurning l.graph l.entries l.fn.mates.onto.items l.fn.mates.planned.items l.mates.onto.items l.mates.planned.items l.last l.free
    × (length l.used.passed.items ≡ length l.fn.used.passed.items)

abbrev pub decreases-walk : goal.decreases-walk
decreases-walk l = l.last
