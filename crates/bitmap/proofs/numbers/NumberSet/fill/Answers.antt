use Rattle.std.proofs.Common.{rules}
use Rattle.bitmap.proofs.Joined.{joined-below}
use Rattle.bitmap.proofs.numbers.NumberSet.fill.Goals as goal

pub returns-clause-numbers : goal.returns-clause-numbers
returns-clause-numbers c = search (rules, joined-below)
