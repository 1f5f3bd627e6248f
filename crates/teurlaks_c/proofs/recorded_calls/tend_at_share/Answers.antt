use mathlib.Core.Logic.{inl, inr}
use Rattle.std.proofs.Common.{ap, refl}
use Rattle.std.specs.Prelude.{Some}
use Rattle.teurlaks_c.proofs.recorded_calls.tend_at_share.Goals as goal

pub returns-in-Seat : goal.returns-in-Seat
returns-in-Seat c = inl (record {
  before = c.in-Seat.seat;
  after = c.ask_seat.new.shared;
  before_is = ap Some c.in-Seat.is;
  after_is = refl;
  arena_is = c.ask_seat.ensures.arena;
  did = c.ask_seat.ensures.does;
})

pub returns-in-Session : goal.returns-in-Session
returns-in-Session c = inr (inl c.ask_paused.ensures)

pub returns-in-RecordedSeat : goal.returns-in-RecordedSeat
returns-in-RecordedSeat c = inr (inr (record {
  before = c.in-RecordedSeat.seat;
  after = c.tend_recorded.new.shared;
  before_is = ap Some c.in-RecordedSeat.is;
  after_is = refl;
  arena_is = c.tend_recorded.ensures.arena;
  did = c.tend_recorded.ensures.does;
}))
