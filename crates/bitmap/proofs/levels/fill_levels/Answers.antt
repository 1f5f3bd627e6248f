use Rattle.std.proofs.Common.{arith}
use Rattle.bitmap.proofs.Summaries.{IsSummary-below}
use Rattle.bitmap.proofs.levels.fill_levels.Goals as goal

pub returns-clause-parts : goal.returns-clause-parts
returns-clause-parts c = IsSummary-below _ _ c.args.count c.div_ceil-parts.result (omega arith) (omega arith) c.fill.ensures.numbers c.fill-2.ensures.numbers

pub returns-clause-top : goal.returns-clause-top
returns-clause-top c = IsSummary-below _ _ c.div_ceil-parts.result c.div_ceil.result (omega arith) (omega arith) c.fill-2.ensures.numbers c.below.ensures
