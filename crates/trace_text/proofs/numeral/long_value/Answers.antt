use Rattle.trace_text.proofs.Names.{arith, ◌^◌, digit_at, value_more}
use Rattle.trace_text.proofs.Digits.{large_front}
use Rattle.trace_text.proofs.numeral.long_value.Goals as goal

pub returns-in_default : goal.returns-in_default
returns-in_default c =
    large_front c.args.digits.now c.loop-digit.digit-index (2 ^ 128) c.requires (omega arith) (omega (arith, c.loop-digit.invariant))

pub overflow_sub-digit : goal.overflow_sub-digit
overflow_sub-digit c = (digit_at c.args.digits.now c.loop-digit.digit-index c.requires (omega arith)).0

pub returns-in_default-checked_add : goal.returns-in_default-checked_add
returns-in_default-checked_add c =
    large_front c.args.digits.now c.loop-digit.digit-index (2 ^ 128) c.requires (omega arith) (omega (arith, c.loop-digit.invariant))

pub loop-digit-preserved : goal.loop-digit-preserved
loop-digit-preserved c =
    omega (arith, c.loop-digit.invariant, value_more c.args.digits.now c.loop-digit.digit-index c.requires (omega arith))
