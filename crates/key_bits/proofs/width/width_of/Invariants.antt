use Rattle.std.proofs.Common.{ℕ, ◌<◌, ◌^◌}
use Rattle.key_bits.proofs.width.width_of.Given as goal

-- no width so far was enough
abbrev pub invariant-loop-bits : goal.invariant-loop-bits
invariant-loop-bits l = (fewer : ℕ) → fewer < l.bits → 2 ^ fewer < l.count
