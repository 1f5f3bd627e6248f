use Rattle.std.proofs.Common.{arith, ◌<◌, length}
use Rattle.std.proofs.lemmas.Str.Parse.{digit_at}
use Rattle.certificate.proofs.Digits.{clip-more}
use Rattle.certificate.proofs.text.numeral.value_of.Goals as goal

pub overflow_sub-digit : goal.overflow_sub-digit
overflow_sub-digit c = let there : c.loop-digit.digit-index < length c.args.digits.now = omega arith in
    (digit_at c.args.digits.now c.loop-digit.digit-index c.requires there).0

pub loop-digit-preserved : goal.loop-digit-preserved
loop-digit-preserved c = let there : c.loop-digit.digit-index < length c.args.digits.now = omega arith in
    let next = clip-more c.args.digits.now c.loop-digit.digit-index c.requires there in
    grind (arith, next, c.loop-digit.invariant, c.saturating_mul.ensures, c.saturating_add-value.ensures, c.from.ensures)
