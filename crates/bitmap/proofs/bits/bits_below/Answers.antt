use Rattle.std.proofs.Common.{◌∙◌, ap, arith}
use Rattle.std.specs.Int.{bit_at}
use Rattle.std.proofs.lemmas.Nat.Bits.{bit_at_ones, bit_at_ones_above}
use Rattle.bitmap.proofs.Shifts.{ones-below}
use Rattle.bitmap.proofs.bits.bits_below.Goals as goal

pub returns-then-limit-ge64-clause-inside : goal.returns-then-limit-ge64-clause-inside
returns-then-limit-ge64-clause-inside c i small less = bit_at_ones 64 i small

pub returns-clause-inside : goal.returns-clause-inside
returns-clause-inside c i small less = ap (λ n. bit_at n i) (ones-below c.args.limit (omega (arith, c.if-limit-ge64.false))) ∙ bit_at_ones c.args.limit i less

pub returns-clause-outside : goal.returns-clause-outside
returns-clause-outside c i from small = ap (λ n. bit_at n i) (ones-below c.args.limit (omega (arith, c.if-limit-ge64.false))) ∙ bit_at_ones_above c.args.limit i from
