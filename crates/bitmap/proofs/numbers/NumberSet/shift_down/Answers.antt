use Rattle.std.proofs.Common.{◌∙◌, ◌+◌, ◌*◌, ap, arith, refl}
use Rattle.std.specs.FinSet.{contains}
use Rattle.bitmap.specs.Numbers.{NumbersState}
use Rattle.bitmap.proofs.MovedNumbers.{high-below, high-down, low-below, low-down}
use Rattle.bitmap.proofs.numbers.NumberSet.shift_down.Goals as goal

-- a quad from 256 on

pub returns-then-first-ge-SLOTS-clause-below : goal.returns-then-first-ge-SLOTS-clause-below
returns-then-first-ge-SLOTS-clause-below c n less =
    high-below c.self.inside.low c.self.inside.low c.self.inside.high c.shift_down.new.self (4 * c.args.quad) c.shift_down.ensures.len
    (omega (arith, c.if-first-ge-SLOTS.true)) refl c.shift_down.ensures.below n (omega (arith, less))
    ∙ ap (λ (s : NumbersState). contains s.numbers n) c.self.view_is

pub returns-then-first-ge-SLOTS-clause-above : goal.returns-then-first-ge-SLOTS-clause-above
returns-then-first-ge-SLOTS-clause-above c n from =
    high-down c.self.inside.low c.self.inside.low c.self.inside.high c.shift_down.new.self (4 * c.args.quad) c.shift_down.ensures.len
    (omega (arith, c.if-first-ge-SLOTS.true)) refl c.shift_down.ensures.above n (omega (arith, from))
    ∙ ap (λ (s : NumbersState). contains s.numbers (n + 4)) c.self.view_is

-- a quad below 256

pub returns-clause-below : goal.returns-clause-below
returns-clause-below c n less =
    low-below c.self.inside.low c.gather-self-inside.result c.self.inside.high c.shift_down-2.new.self (4 * c.args.quad) c.shift_down-2.ensures.len
    (omega (arith, c.if-first-ge-SLOTS.false)) (omega arith) c.gather-self-inside.ensures.below n (omega (arith, less))
    ∙ ap (λ (s : NumbersState). contains s.numbers n) c.self.view_is

pub returns-clause-above : goal.returns-clause-above
returns-clause-above c n from =
    low-down c.self.inside.low c.gather-self-inside.result c.self.inside.high c.shift_down-2.new.self (4 * c.args.quad) c.shift_down-2.ensures.len
    (omega (arith, c.if-first-ge-SLOTS.false)) (omega arith) c.gather-self-inside.ensures.above
    (λ slot small large. c.gather-self-inside.ensures.last slot small large ∙ c.first_part-after.ensures slot (omega (arith, small))) c.shift_down-2.ensures.above
    n (omega (arith, from))
    ∙ ap (λ (s : NumbersState). contains s.numbers (n + 4)) c.self.view_is
