use Rattle.std.proofs.Common.{arith, sym, rules}
use Rattle.bitmap.proofs.InParts.{contains-part, contains-past}
use Rattle.bitmap.proofs.parts.contains_in.Goals as goal

pub returns-then-number-len : goal.returns-then-number-len
returns-then-number-len c = sym (contains-past c.args.parts.now.items c.args.number (omega arith))

pub returns : goal.returns
returns c = search (rules, contains-part)
