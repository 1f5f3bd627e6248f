use Rattle.std.proofs.Common.{◌≡◌, vec_len}
use Rattle.bitmap.proofs.MovedParts.{IsBefore, IsRaised}
use Rattle.bitmap.proofs.parts.raise_from.Given as goal

abbrev pub invariant-loop-part : goal.invariant-loop-part
invariant-loop-part l = (vec_len l.parts ≡ vec_len l.initial.parts)
    × IsRaised l.initial.parts.items l.fn.from l.fn.before l.parts.items l.part
    × IsBefore l.initial.parts.items l.fn.from l.fn.before l.before l.part
