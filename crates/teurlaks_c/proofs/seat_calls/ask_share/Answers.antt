use mathlib.Core.Logic.{inl, inr}
use Rattle.std.proofs.Common.{ap, refl}
use Rattle.std.specs.Prelude.{Some}
use Rattle.teurlaks_c.proofs.Recording.{asked_without_receipt}
use Rattle.teurlaks_c.proofs.seat_calls.ask_share.Goals as goal

pub returns-in-Seat : goal.returns-in-Seat
returns-in-Seat g c = inl (record {
  before = c.in-Seat.seat;
  after = c.ask_seat.new.shared;
  before_is = ap Some c.in-Seat.is;
  after_is = refl;
  arena_is = c.ask_seat.ensures.arena;
  did = c.ask_seat.ensures.does;
})

pub returns-in-Session : goal.returns-in-Session
returns-in-Session g c = inr (inl c.ask_paused.ensures)

pub returns-in-RecordedSeat : goal.returns-in-RecordedSeat
returns-in-RecordedSeat g c =
    let asked = c.ask_recorded_seat.ensures in
    inr (inr (asked_without_receipt (g.C.SeatCall.does c.args.call.now) (Some c.args.share.now) c.in-RecordedSeat.seat c.ask_recorded_seat.new.shared
    (ap Some c.in-RecordedSeat.is)
    asked.arena asked.receipts c.ask_recorded_seat.result asked.does))
