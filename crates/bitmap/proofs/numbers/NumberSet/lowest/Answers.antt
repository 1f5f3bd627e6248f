use Rattle.bitmap.proofs.Joined.{IsLowest-high, IsLowest-low, joined-empty}
use Rattle.bitmap.proofs.numbers.NumberSet.lowest.Goals as goal

pub returns-in-Some-clause-lowest : goal.returns-in-Some-clause-lowest
returns-in-Some-clause-lowest c = rw (← c.self.view_is, c.from.ensures) (IsLowest-low c.self.inside.low c.self.inside.high c.in-Some.slot c.in-Some.ensures.in_range c.in-Some.ensures.lowest)

pub returns-in_default-lowest-clause-lowest : goal.returns-in_default-lowest-clause-lowest
returns-in_default-lowest-clause-lowest c = rw (← c.self.view_is) (joined-empty c.self.inside.low c.self.inside.high c.in_default.ensures.lowest c.in_default-lowest.ensures.lowest)

pub returns-clause-lowest : goal.returns-clause-lowest
returns-clause-lowest c = rw (← c.self.view_is) (IsLowest-high c.self.inside.low c.self.inside.high c.in-Some-lowest.number c.in_default.ensures.lowest c.in-Some-lowest.ensures.lowest)
