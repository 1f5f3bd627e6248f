use mathlib.Core.Logic.{inr}
use Rattle.teurlaks_c.proofs.many.free_raw.Goals as goal

pub returns-in-Some : goal.returns-in-Some
returns-in-Some c = inr (
  c.in-Some.key,
  c.in-Some.ensures,
  (record { exact = c.free.ensures.exact; plain = c.free.ensures.plain; sound = c.free.ensures.sound }),
)
