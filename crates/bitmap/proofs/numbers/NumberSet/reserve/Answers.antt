use Rattle.std.proofs.Common.{rules}
use Rattle.std.proofs.lemmas.Result.{on_err_weaker}
use Rattle.bitmap.proofs.Joined.{joined-same}
use Rattle.bitmap.proofs.numbers.NumberSet.reserve.Goals as goal

pub returns-clause-numbers : goal.returns-clause-numbers
returns-clause-numbers c = rw (← c.self.view_is) (joined-same c.self.inside.low c.reserve.new.self c.self.inside.high c.reserve.ensures.numbers)

pub returns-clause-err : goal.returns-clause-err
returns-clause-err c = search (rules, on_err_weaker, joined-same)
