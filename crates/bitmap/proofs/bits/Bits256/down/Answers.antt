use Rattle.std.proofs.Common.{rules}
use Rattle.bitmap.proofs.Shifts.{slots-down_last, slots-down_others}
use Rattle.bitmap.proofs.bits.Bits256.down.Goals as goal

pub returns-clause-last : goal.returns-clause-last
returns-clause-last c = search (rules, slots-down_last)

pub returns-clause-others : goal.returns-clause-others
returns-clause-others c slot small = search (rules, slots-down_others)
