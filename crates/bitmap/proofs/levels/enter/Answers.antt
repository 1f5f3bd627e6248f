use Rattle.std.proofs.Common.{◌/◌}
use Rattle.bitmap.proofs.Summaries.{IsSummary-insert}
use Rattle.bitmap.specs.declared.bits.TheConstants.{SLOTS}
use Rattle.bitmap.proofs.levels.enter.Goals as goal

pub returns-clause-parts : goal.returns-clause-parts
returns-clause-parts c = rw (c.insert_in.ensures.numbers, c.insert_in-2.ensures.numbers) (IsSummary-insert _ _ c.requires.parts c.args.number)

pub returns-clause-top : goal.returns-clause-top
returns-clause-top c = rw (c.insert_in-2.ensures.numbers, c.insert.ensures) (IsSummary-insert _ _ c.requires.top (c.args.number / SLOTS))
