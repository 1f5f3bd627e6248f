use mathlib.Core.Logic.{inr}
use Rattle.std.proofs.Common.{subst}
use Rattle.teurlaks_c.specs.Calls.{SaysGot}
use Rattle.teurlaks_c.proofs.many.get_raw.Goals as goal

pub returns-in-Some : goal.returns-in-Some
returns-in-Some c = inr (c.in-Some.key, c.in-Some.ensures, subst (SaysGot c.got.result) c.get.ensures.value c.got.ensures)
