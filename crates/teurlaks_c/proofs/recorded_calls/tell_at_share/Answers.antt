use mathlib.Core.Logic.{inl, inr}
use Rattle.std.proofs.Common.{ap, refl}
use Rattle.std.specs.Prelude.{None, Ok, Some}
use Rattle.teurlaks_c.specs.Recorded.{asked_of}
use Rattle.teurlaks_c.proofs.OtherShares.{HasNoSeat-other}
use Rattle.teurlaks_c.proofs.Recording.{asked_told}
use Rattle.teurlaks_c.proofs.recorded_calls.tell_at_share.Goals as goal

pub returns-in-Seat : goal.returns-in-Seat
returns-in-Seat g c = (
  Ok (Some c.ask_seat.result),
  inl (record {
    before = c.in-Seat.seat;
    after = c.ask_seat.new.shared;
    before_is = ap Some c.in-Seat.is;
    after_is = refl;
    arena_is = c.ask_seat.ensures.arena;
    did = c.ask_seat.ensures.does;
  }),
  c.reply.ensures,
)

pub returns-in-Session : goal.returns-in-Session
returns-in-Session g c = (
  Ok (Some c.ask_in_session.result),
  inr (inl (record {
    before = c.in-Session.session;
    after = c.ask_in_session.new.shared;
    before_is = ap Some c.in-Session.is;
    after_is = refl;
    arena_is = c.ask_in_session.ensures.arena;
    did = c.ask_in_session.ensures.does;
  })),
  c.reply-in-Session.ensures,
)

pub returns-in-RecordedSeat : goal.returns-in-RecordedSeat
returns-in-RecordedSeat g c =
    let does = c.tell_at_recorded.ensures.does in (
      asked_of does.0,
      asked_told (g.C.SeatCall.does c.args.call.now) (g.C.SessionCall.does_held c.args.call.now) (g.C.ToldCall.told c.args.call.now)
          (Some c.args.share.now) c.in-RecordedSeat.seat c.tell_at_recorded.new.shared (ap Some c.in-RecordedSeat.is) c.tell_at_recorded.ensures.arena
          does.0 does.1,
      does.2,
    )

pub returns-in_default : goal.returns-in_default
returns-in_default g c = (Ok None, (HasNoSeat-other c.args.share.now c.in_default.not-Seat c.in_default.not-Session c.in_default.not-RecordedSeat, refl), c.no_seat.ensures)
