use mathlib.Core.Logic.{inr}
use Rattle.teurlaks_c.proofs.seats.teurlaks_seat_set_words.Goals as goal

pub returns : goal.returns
returns c = inr (inr (c.in-Some.ensures.class.0, (c.in-Some-key_of.key, c.in-Some-key_of.ensures, c.set.ensures)))
