use mathlib.Core.Logic.{inr}
use Rattle.teurlaks_c.proofs.calls.teurlaks_get_words.Goals as goal

pub returns-clause-live : goal.returns-clause-live
returns-clause-live c live = inr (c.in-Some.key, c.in-Some.ensures, (c.get_words.ensures.live live))
