use Rattle.std.proofs.Common.{◌≡◌, vec_len}
use Rattle.bitmap.specs.Parts.{IsSummaryTo, numbers_in}
use Rattle.bitmap.proofs.parts.summarize_from.Given as goal

abbrev pub invariant-loop-part : goal.invariant-loop-part
invariant-loop-part l = (vec_len l.filled ≡ vec_len l.initial.filled)
    × IsSummaryTo (numbers_in l.fn.parts.items) (numbers_in l.filled.items) l.part l.fn.end
