use Rattle.std.proofs.Common.{rules}
use Rattle.bitmap.proofs.MovedParts.{IsSummaryTo-none, IsSummaryTo-some, IsSummary-all}
use Rattle.bitmap.proofs.parts.summarize_from.Goals as goal
use Rattle.bitmap.proofs.parts.summarize_from.Goals.{then-is_some, else-is_some}

pub loop-part-preserved : goal.loop-part-preserved
loop-part-preserved c = search (rules, then-is_some, IsSummaryTo-some, else-is_some, IsSummaryTo-none)

pub returns-clause-summary : goal.returns-clause-summary
returns-clause-summary c = search (rules, IsSummary-all)
