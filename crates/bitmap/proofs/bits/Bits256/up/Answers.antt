use Rattle.std.proofs.Common.{rules}
use Rattle.bitmap.proofs.Shifts.{slots-up_first, slots-up_others}
use Rattle.bitmap.proofs.bits.Bits256.up.Goals as goal

pub returns-clause-first : goal.returns-clause-first
returns-clause-first c = search (rules, slots-up_first)

pub returns-clause-others : goal.returns-clause-others
returns-clause-others c slot small = search (rules, slots-up_others)
