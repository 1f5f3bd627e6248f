use mathlib.Core.Logic.{inl, inr}
use Rattle.std.proofs.Common.{ap, refl}
use Rattle.std.specs.Prelude.{None, Some}
use Rattle.teurlaks_c.proofs.OtherShares.{HasNoSeat-other}
use Rattle.teurlaks_c.proofs.Recording.{asked_without_receipt}
use Rattle.teurlaks_c.proofs.session_calls.ask_either.Goals as goal

pub returns-in-Seat : goal.returns-in-Seat
returns-in-Seat g c = (
  Some c.ask_seat.result,
  inl (record {
    before = c.in-Seat.seat;
    after = c.ask_seat.new.shared;
    before_is = ap Some c.in-Seat.is;
    after_is = refl;
    arena_is = c.ask_seat.ensures.arena;
    did = c.ask_seat.ensures.does;
  }),
  c.reply.ensures,
)

pub returns-in-Session : goal.returns-in-Session
returns-in-Session g c = (
  Some c.ask_in_session.result,
  inr (inl (record {
    before = c.in-Session.session;
    after = c.ask_in_session.new.shared;
    before_is = ap Some c.in-Session.is;
    after_is = refl;
    arena_is = c.ask_in_session.ensures.arena;
    did = c.ask_in_session.ensures.does;
  })),
  c.reply-in-Session.ensures,
)

pub returns-in-RecordedSeat : goal.returns-in-RecordedSeat
returns-in-RecordedSeat g c =
    let asked = c.ask_recorded_seat.ensures in (
      Some c.ask_recorded_seat.result,
      inr (inr (asked_without_receipt (g.C.SeatCall.does c.args.call.now) (Some c.args.share.now) c.in-RecordedSeat.seat c.ask_recorded_seat.new.shared
          (ap Some c.in-RecordedSeat.is)
          asked.arena asked.receipts c.ask_recorded_seat.result asked.does)),
      c.reply-in-RecordedSeat.ensures,
    )

pub returns-in_default : goal.returns-in_default
returns-in_default g c = (None, (HasNoSeat-other c.args.share.now c.in_default.not-Seat c.in_default.not-Session c.in_default.not-RecordedSeat, refl), c.no_seat.ensures)
