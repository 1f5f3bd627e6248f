use Rattle.std.proofs.Common.{rules}
use Rattle.bitmap.proofs.InParts.{numbers_in-none}
use Rattle.bitmap.proofs.Summaries.{IsSummary-empty}
use Rattle.bitmap.proofs.levels.Levels.with_room.Goals as goal

pub invariant_of-high : goal.invariant_of-high
invariant_of-high c = search (rules, IsSummary-empty, numbers_in-none)

pub returns : goal.returns
returns c = search (rules, numbers_in-none)
