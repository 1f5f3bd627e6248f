use Rattle.std.proofs.Common.{eq-eqb, eqb-true, rules}
use Rattle.bitmap.proofs.WordVacancy.{first-lt, HasWord-full, HasWord-last, IsLowestOutsideIn-first, last-HasWord}
use Rattle.bitmap.proofs.bits.Bits256.lowest_outside_both_in.Goals as goal

pub returns-then-both-clause-lowest : goal.returns-then-both-clause-lowest
returns-then-both-clause-lowest c = search (rules, HasWord-full)

pub overflow_cast-result : goal.overflow_cast-result
overflow_cast-result c = search (rules, first-lt)

pub overflow_shl-result : goal.overflow_shl-result
overflow_shl-result c = search (rules, first-lt)

pub returns-clause-lowest : goal.returns-clause-lowest
returns-clause-lowest c =
    rw (← c.self.view_is, ← c.other.view_is, c.trailing_ones-low.ensures)
    (IsLowestOutsideIn-first c.self.inside.words c.other.inside.words c.self.invariant c.other.invariant c.args.word c.requires c.if-both.false)

pub returns-clause-last : goal.returns-clause-last
returns-clause-last c = search (rules, HasWord-last, eqb-true, eq-eqb, last-HasWord)

pub returns-clause-in_range : goal.returns-clause-in_range
returns-clause-in_range c = search (rules, first-lt)
