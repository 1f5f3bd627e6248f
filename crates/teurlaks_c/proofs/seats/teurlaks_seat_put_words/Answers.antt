use mathlib.Core.Logic.{inl}
use Rattle.teurlaks_c.proofs.seats.teurlaks_seat_put_words.Goals as goal

pub returns : goal.returns
returns c = inl (c.in-Some.ensures.class.0, c.put.ensures)
