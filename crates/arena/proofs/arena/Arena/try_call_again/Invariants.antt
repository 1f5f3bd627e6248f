use Rattle.std.proofs.Common.{◌≡◌}
use Rattle.arena.proofs.arena.Arena.try_call_again.Given as goal

-- nothing is written while the span is not found
abbrev pub invariant-loop : goal.invariant-loop
invariant-loop g l = l.room ≡ l.fn.room
