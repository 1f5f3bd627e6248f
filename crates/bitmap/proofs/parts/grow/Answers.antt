use Rattle.std.proofs.Common.{rules}
use Rattle.bitmap.proofs.InParts.{numbers_in-resized}
use Rattle.bitmap.proofs.parts.grow.Goals as goal

pub returns-clause-numbers : goal.returns-clause-numbers
returns-clause-numbers c = search (rules, numbers_in-resized)
