use Rattle.std.proofs.Common.{◌≡◌}
use Rattle.stress.proofs.spans.open_many.Given as goal

abbrev pub invariant-loop : goal.invariant-loop
invariant-loop g l = l.seat.limits ≡ l.arena.limits
