use Rattle.std.proofs.Common.{arith, refl}
use Rattle.bitmap.proofs.Joined.{remove-high, remove_if-low}
use Rattle.bitmap.proofs.numbers.NumberSet.remove_if.Goals as goal

pub returns-then-number-lt-SLOTS : goal.returns-then-number-lt-SLOTS
returns-then-number-lt-SLOTS c = rw (← c.self.view_is, c.remove_if.ensures, remove_if-low c.self.inside.low c.self.inside.high c.args.number (omega arith) c.args.out) refl

pub returns-then-out : goal.returns-then-out
returns-then-out c = rw (← c.self.view_is, c.if-out.true, c.remove.ensures.len, remove-high c.self.inside.low c.self.inside.high c.args.number c.remove.new.self (omega arith) c.remove.ensures.numbers) refl
