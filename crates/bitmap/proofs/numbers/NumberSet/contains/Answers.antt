use Rattle.std.proofs.Common.{◌∙◌, arith, sym}
use Rattle.bitmap.proofs.Joined.{contains-high, contains-low}
use Rattle.bitmap.proofs.numbers.NumberSet.contains.Goals as goal

pub returns-then-number-lt-SLOTS : goal.returns-then-number-lt-SLOTS
returns-then-number-lt-SLOTS c = rw (← c.self.view_is) (c.contains.ensures ∙ sym (contains-low c.self.inside.low c.self.inside.high c.args.number (omega arith)))

pub returns : goal.returns
returns c = rw (← c.self.view_is) (c.contains-2.ensures ∙ sym (contains-high c.self.inside.low c.self.inside.high c.args.number (omega arith)))
