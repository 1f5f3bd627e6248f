use Rattle.std.proofs.Common.{◌∙◌, arith, sym, rules}
use Rattle.bitmap.proofs.InParts.{HasNoneIn-empty, HasNoneIn-past, IsLowestIn-slot}
use Rattle.bitmap.proofs.parts.lowest_in.Goals as goal

pub returns-then-part-len : goal.returns-then-part-len
returns-then-part-len c = HasNoneIn-past c.args.parts.now.items c.args.part (omega arith)

pub returns-in_default : goal.returns-in_default
returns-in_default c = HasNoneIn-empty c.args.parts.now.items c.args.part (omega arith) c.index.result.now (sym c.index.ensures ∙ c.in_default.ensures.lowest)

pub returns : goal.returns
returns c = search (rules, IsLowestIn-slot)
