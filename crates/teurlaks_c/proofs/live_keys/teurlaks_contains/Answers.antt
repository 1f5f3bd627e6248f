use mathlib.Core.Logic.{inr}
use Rattle.teurlaks_c.proofs.live_keys.teurlaks_contains.Goals as goal

pub returns-clause-live : goal.returns-clause-live
returns-clause-live c live = inr (c.in-Some.key, c.in-Some.ensures, c.contains.ensures.live live)
