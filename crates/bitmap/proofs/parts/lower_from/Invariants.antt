use Rattle.std.proofs.Common.{◌≡◌, vec_len}
use Rattle.bitmap.proofs.MovedParts.{IsLowered}
use Rattle.bitmap.proofs.parts.lower_from.Given as goal

abbrev pub invariant-loop-part : goal.invariant-loop-part
invariant-loop-part l = (vec_len l.parts ≡ vec_len l.initial.parts) × IsLowered l.initial.parts.items l.fn.from l.parts.items l.part
