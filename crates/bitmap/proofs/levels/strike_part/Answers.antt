use Rattle.std.proofs.Common.{◌∙◌, sym, rules}
use Rattle.bitmap.proofs.Summaries.{IsSummary-left, IsSummary-left_none}
use Rattle.bitmap.proofs.levels.strike_part.Goals as goal

pub returns-then-is_some-clause-top : goal.returns-then-is_some-clause-top
returns-then-is_some-clause-top c = IsSummary-left _ _ c.requires.top c.args.part _ c.remove_in.ensures.numbers c.lowest_in.result c.lowest_in.ensures (sym c.is_some.ensures ∙ c.if-is_some.true)

pub returns-clause-top : goal.returns-clause-top
returns-clause-top c = search (rules, IsSummary-left_none)
