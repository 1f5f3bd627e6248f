use Rattle.std.proofs.Common.{◌≡◌, ℕ, ◌*◌, ◌<◌, nat_lt, vec_len}
use Rattle.std.specs.FinSet.{contains}
use Rattle.bitmap.specs.Parts.{numbers_in}
use Rattle.bitmap.specs.declared.bits.TheConstants.{SLOTS}
use Rattle.bitmap.proofs.parts.fill.Given as goal

abbrev pub invariant-loop-part : goal.invariant-loop-part
invariant-loop-part l = (vec_len l.parts ≡ vec_len l.initial.parts) × ((q : ℕ) → q < SLOTS * l.part
    → contains (numbers_in l.parts.items) q ≡ nat_lt q l.fn.count)
