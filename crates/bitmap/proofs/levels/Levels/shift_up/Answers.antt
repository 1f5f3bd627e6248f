use Rattle.bitmap.specs.Parts.{numbers_in}
use Rattle.bitmap.proofs.MovedParts.{IsSummaryTo-changed}
use Rattle.bitmap.proofs.levels.Levels.shift_up.Goals as goal

pub summarize_from-requires-clause-known : goal.summarize_from-requires-clause-known
summarize_from-requires-clause-known c =
    IsSummaryTo-changed c.self.inside.parts.items c.spread_all-end.new.parts.items (numbers_in c.self.inside.filled.items) c.args.limit c.spread_all-end.result
    c.spread_all-end.ensures.before c.self.invariant.parts_known c.spread_all-end.ensures.below
