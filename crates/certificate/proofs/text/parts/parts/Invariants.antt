use Rattle.std.proofs.Common.{◌≡◌}
use Rattle.certificate.proofs.text.parts.parts.Given as goal

-- the parts so far are kept
abbrev pub invariant-loop-part : goal.invariant-loop-part
invariant-loop-part l = l.parts.items ≡ l.yielded
