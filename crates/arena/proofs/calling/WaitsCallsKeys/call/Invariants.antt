use Rattle.std.proofs.Common.{◌≡◌}
use Rattle.arena.proofs.calling.WaitsCallsKeys.call.Given as goal

-- nothing is written while another thread is in the way
abbrev pub invariant-loop : goal.invariant-loop
invariant-loop g l = l.room ≡ l.fn.room
