use Rattle.std.proofs.Common.{◌∙◌, sym, rules}
use Rattle.bitmap.proofs.Summaries.{IsSummary-left, IsSummary-left_none}
use Rattle.bitmap.proofs.levels.strike.Goals as goal

pub returns-then-is_some-clause-parts : goal.returns-then-is_some-clause-parts
returns-then-is_some-clause-parts c = IsSummary-left _ _ c.requires.parts c.args.number _ c.remove_in.ensures.numbers c.lowest_in.result c.lowest_in.ensures (sym c.is_some.ensures ∙ c.if-is_some.true)

pub returns-clause-parts : goal.returns-clause-parts
returns-clause-parts c = search (rules, IsSummary-left_none)
