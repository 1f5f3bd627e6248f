use Rattle.trace_text.proofs.Names.{arith, digit_at, value_more}
use Rattle.trace_text.proofs.numeral.short_value.Goals as goal

pub overflow_sub-digit : goal.overflow_sub-digit
overflow_sub-digit c = (digit_at c.args.digits.now c.loop-digit.digit-index c.requires (omega arith)).0

pub loop-digit-preserved : goal.loop-digit-preserved
loop-digit-preserved c =
    omega (arith, c.loop-digit.invariant, value_more c.args.digits.now c.loop-digit.digit-index c.requires (omega arith))
