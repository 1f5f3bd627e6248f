use Rattle.std.proofs.Common.{rules}
use Rattle.bitmap.proofs.InParts.{in_room}
use Rattle.bitmap.proofs.Summaries.{IsLowest-part, empty-summary, lowest-part}
use Rattle.bitmap.proofs.levels.lowest_of.Goals as goal

pub returns-in_default-clause-lowest : goal.returns-in_default-clause-lowest
returns-in_default-clause-lowest c = empty-summary _ _ c.requires.parts (empty-summary _ _ c.requires.top c.in_default.ensures.lowest)

pub returns-clause-lowest : goal.returns-clause-lowest
returns-clause-lowest c = search (rules, lowest-part, IsLowest-part)

pub returns-clause-in_room : goal.returns-clause-in_room
returns-clause-in_room c = rw c.args.high.now.ok.0 (in_room c.args.high.now.items c.in-Some-lowest_in.part c.lowest_in-2.result c.lowest_in-2.ensures)
