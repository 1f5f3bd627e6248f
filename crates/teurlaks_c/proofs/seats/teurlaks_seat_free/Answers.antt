use mathlib.Core.Logic.{inr}
use Rattle.teurlaks_c.proofs.seats.teurlaks_seat_free.Goals as goal

pub returns : goal.returns
returns c = inr (c.in-Some.key, c.in-Some.ensures, c.free.ensures)
