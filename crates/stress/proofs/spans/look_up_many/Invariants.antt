use Rattle.std.proofs.Common.{◌≡◌}
use Rattle.stress.proofs.spans.look_up_many.Given as goal

abbrev pub invariant-loop : goal.invariant-loop
invariant-loop g l = l.seat.limits ≡ l.arena.limits
