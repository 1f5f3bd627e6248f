use mathlib.Core.Logic.{inr}
use Rattle.teurlaks_c.proofs.seats.teurlaks_seat_free_later.Goals as goal

pub returns : goal.returns
returns c = inr (c.in-Some.key, c.in-Some.ensures, c.at_seat_or_session.ensures)
