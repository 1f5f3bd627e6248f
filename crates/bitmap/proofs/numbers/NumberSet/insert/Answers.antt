use Rattle.std.proofs.Common.{arith, refl}
use Rattle.bitmap.proofs.Joined.{insert-high, insert-low}
use Rattle.bitmap.proofs.numbers.NumberSet.insert.Goals as goal

pub returns-then-number-lt-SLOTS : goal.returns-then-number-lt-SLOTS
returns-then-number-lt-SLOTS c = rw (← c.self.view_is, c.insert.ensures, insert-low c.self.inside.low c.self.inside.high c.args.number (omega arith)) refl

pub returns : goal.returns
returns c = rw (← c.self.view_is, c.insert-2.ensures.len, insert-high c.self.inside.low c.self.inside.high c.args.number c.insert-2.new.self (omega arith) c.insert-2.ensures.numbers) refl
