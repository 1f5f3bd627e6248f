use Rattle.std.proofs.Common.{arith, refl}
use Rattle.bitmap.proofs.Joined.{remove-high, remove-low}
use Rattle.bitmap.proofs.numbers.NumberSet.remove.Goals as goal

pub returns-then-number-lt-SLOTS : goal.returns-then-number-lt-SLOTS
returns-then-number-lt-SLOTS c = rw (← c.self.view_is, c.remove.ensures, remove-low c.self.inside.low c.self.inside.high c.args.number (omega arith)) refl

pub returns : goal.returns
returns c = rw (← c.self.view_is, c.remove-2.ensures.len, remove-high c.self.inside.low c.self.inside.high c.args.number c.remove-2.new.self (omega arith) c.remove-2.ensures.numbers) refl
