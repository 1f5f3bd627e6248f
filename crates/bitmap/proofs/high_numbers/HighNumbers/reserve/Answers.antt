use Rattle.std.proofs.Common.{rules}
use Rattle.bitmap.proofs.InParts.{numbers_in-none, parts-none}
use Rattle.bitmap.proofs.high_numbers.HighNumbers.reserve.Goals as goal

pub returns-clause-numbers : goal.returns-clause-numbers
returns-clause-numbers c = search (rules, numbers_in-none, parts-none)
