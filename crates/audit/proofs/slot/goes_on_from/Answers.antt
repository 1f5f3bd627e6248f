use Rattle.std.proofs.Common.{arith, rules}
use Rattle.std.proofs.lemmas.Option.{get_or_from_slice_get, slice_get_within}
use Rattle.audit.proofs.slot.goes_on_from.Goals as goal

pub returns-then-n-found : goal.returns-then-n-found
returns-then-n-found c so x at = absurd (let within = slice_get_within c.args.found.now c.args.n x at in omega (arith, c.if-n-found.true))

pub returns : goal.returns
returns c so x at = search (rules, get_or_from_slice_get)
