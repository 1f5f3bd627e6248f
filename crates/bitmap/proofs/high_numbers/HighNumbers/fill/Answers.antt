use Rattle.std.proofs.Common.{rules}
use Rattle.bitmap.proofs.InParts.{in_none, parts-none}
use Rattle.bitmap.proofs.high_numbers.HighNumbers.fill.Goals as goal

pub returns-clause-numbers : goal.returns-clause-numbers
returns-clause-numbers c = search (rules, in_none, parts-none)
