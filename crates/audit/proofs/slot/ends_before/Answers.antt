use Rattle.std.proofs.Common.{arith, rules}
use Rattle.std.proofs.lemmas.Option.{get_or_from_slice_get}
use Rattle.audit.proofs.slot.ends_before.Goals as goal

pub returns-then-n-eq0 : goal.returns-then-n-eq0
returns-then-n-eq0 c so x some at = absurd (omega (arith, c.if-n-eq0.true))

pub returns : goal.returns
returns c so x some at = search (rules, get_or_from_slice_get)
