use Rattle.std.proofs.Common.{arith, rules}
use Rattle.bitmap.proofs.InParts.{below-all, below-part}
use Rattle.bitmap.proofs.parts.fill.Goals as goal

pub loop-part-preserved : goal.loop-part-preserved
loop-part-preserved c = search (rules, below-part)

pub returns-clause-numbers : goal.returns-clause-numbers
returns-clause-numbers c = below-all c.loop-part.parts.items c.args.count (omega (arith, c.loop-part.invariant.0)) (λ q less. c.loop-part.invariant.1 q (omega (arith, less, c.loop-part.invariant.0)))
