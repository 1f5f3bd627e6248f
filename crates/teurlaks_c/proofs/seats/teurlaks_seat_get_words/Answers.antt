use mathlib.Core.Logic.{inr}
use Rattle.teurlaks_c.proofs.seats.teurlaks_seat_get_words.Goals as goal

pub returns : goal.returns
returns c = inr (c.in-Some.key, c.in-Some.ensures, c.look_up_at_seat.ensures)
