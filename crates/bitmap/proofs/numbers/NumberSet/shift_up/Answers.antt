use Rattle.std.proofs.Common.{◌≡◌, ◌∙◌, ◌+◌, ◌-◌, ◌*◌, ◌∷◌, ap, arith, sym, refl}
use Rattle.std.specs.FinSet.{contains, contains-empty}
use Rattle.std.specs.Ordering.{nat_cmp}
use Rattle.bitmap.specs.Numbers.{NumbersState}
use Rattle.bitmap.specs.Parts.{numbers_in}
use Rattle.bitmap.proofs.MovedNumbers.{high-below, high-this, high-up, low-below, low-this, low-up}
use Rattle.bitmap.proofs.numbers.NumberSet.shift_up.Goals as goal

-- a quad from 256 on

pub returns-then-first-ge-SLOTS-clause-below : goal.returns-then-first-ge-SLOTS-clause-below
returns-then-first-ge-SLOTS-clause-below c n less =
    high-below c.self.inside.low c.self.inside.low c.self.inside.high c.shift_up.new.self (4 * c.args.quad) c.shift_up.ensures.len
    (omega (arith, c.if-first-ge-SLOTS.true)) refl c.shift_up.ensures.below n (omega (arith, less))
    ∙ ap (λ (s : NumbersState). contains s.numbers n) c.self.view_is

pub returns-then-first-ge-SLOTS-clause-this : goal.returns-then-first-ge-SLOTS-clause-this
returns-then-first-ge-SLOTS-clause-this c n here =
    ap (contains (numbers_in (c.self.inside.low ∷ c.shift_up.new.self))) (let e : n ≡ 4 * c.args.quad + (n - 4 * c.args.quad) = omega (arith, here) in e)
    ∙ high-this c.self.inside.low c.self.inside.low c.self.inside.high c.shift_up.new.self (4 * c.args.quad) c.shift_up.ensures.len
    (omega (arith, c.if-first-ge-SLOTS.true)) refl
    (λ slot small within. c.shift_up.ensures.this slot small within ∙ ap (λ s. contains s (252 + slot)) c.empty.ensures ∙ contains-empty nat_cmp (252 + slot))
    (n - 4 * c.args.quad) (omega (arith, here))

pub returns-then-first-ge-SLOTS-clause-above : goal.returns-then-first-ge-SLOTS-clause-above
returns-then-first-ge-SLOTS-clause-above c n from =
    high-up c.self.inside.low c.self.inside.low c.self.inside.high c.shift_up.new.self (4 * c.args.quad) c.shift_up.ensures.len
    (omega (arith, c.if-first-ge-SLOTS.true)) refl c.shift_up.ensures.above
    (λ q member. omega (arith, ap (λ (s : NumbersState). s.room) c.self.view_is, c.requires.room q (sym (ap (λ (s : NumbersState). contains s.numbers q) c.self.view_is) ∙ member)))
    n (omega (arith, from))
    ∙ ap (λ (s : NumbersState). contains s.numbers n) c.self.view_is

-- a quad below 256

pub returns-clause-below : goal.returns-clause-below
returns-clause-below c n less =
    low-below c.self.inside.low c.spread-self-inside.result c.self.inside.high c.shift_up-2.new.self (4 * c.args.quad) c.shift_up-2.ensures.len
    (omega (arith, c.if-first-ge-SLOTS.false)) (omega arith) c.spread-self-inside.ensures.below n (omega (arith, less))
    ∙ ap (λ (s : NumbersState). contains s.numbers n) c.self.view_is

pub returns-clause-this : goal.returns-clause-this
returns-clause-this c n here =
    ap (contains (numbers_in (c.spread-self-inside.result ∷ c.shift_up-2.new.self))) (let e : n ≡ 4 * c.args.quad + (n - 4 * c.args.quad) = omega (arith, here) in e)
    ∙ low-this c.self.inside.low c.spread-self-inside.result c.self.inside.high c.shift_up-2.new.self (4 * c.args.quad) c.shift_up-2.ensures.len
    (omega (arith, c.if-first-ge-SLOTS.false)) (omega arith)
    (λ slot small within. c.spread-self-inside.ensures.this slot small within ∙ ap (λ s. contains s (252 + slot)) c.empty-2.ensures ∙ contains-empty nat_cmp (252 + slot))
    (n - 4 * c.args.quad) (omega (arith, here))

pub returns-clause-above : goal.returns-clause-above
returns-clause-above c n from =
    low-up c.self.inside.low c.spread-self-inside.result c.self.inside.high c.shift_up-2.new.self (4 * c.args.quad) c.shift_up-2.ensures.len
    (omega (arith, c.if-first-ge-SLOTS.false)) (omega arith) c.spread-self-inside.ensures.above c.shift_up-2.ensures.this c.shift_up-2.ensures.above
    (λ q member. omega (arith, ap (λ (s : NumbersState). s.room) c.self.view_is, c.requires.room q (sym (ap (λ (s : NumbersState). contains s.numbers q) c.self.view_is) ∙ member)))
    n (omega (arith, from))
    ∙ ap (λ (s : NumbersState). contains s.numbers n) c.self.view_is
