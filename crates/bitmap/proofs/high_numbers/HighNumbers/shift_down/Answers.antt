use Rattle.std.proofs.Common.{rules}
use Rattle.bitmap.proofs.InParts.{in_none, parts-none}
use Rattle.bitmap.proofs.high_numbers.HighNumbers.shift_down.Goals as goal

pub returns-clause-above : goal.returns-clause-above
returns-clause-above c = search (rules, in_none, parts-none)
