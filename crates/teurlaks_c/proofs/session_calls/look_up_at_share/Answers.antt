use mathlib.Core.Logic.{inl, inr}
use Rattle.std.proofs.Common.{ap, refl}
use Rattle.std.specs.Prelude.{None, Some}
use Rattle.teurlaks_c.proofs.OtherShares.{HasNoSeat-other}
use Rattle.teurlaks_c.proofs.session_calls.look_up_at_share.Goals as goal

pub returns-in-Seat : goal.returns-in-Seat
returns-in-Seat c =
    let does = c.look_up.ensures.does in
    inl (
      Some does.0,
      record {
        before = c.in-Seat.seat;
        after = c.look_up.new.shared;
        before_is = ap Some c.in-Seat.is;
        after_is = refl;
        arena_is = c.look_up.ensures.arena;
        did = does.1;
      },
      does.2,
    )

pub returns-in-Session : goal.returns-in-Session
returns-in-Session c =
    let does = c.look_up_in_session.ensures.does in
    inr (inl (
      does.0,
      record {
        before = c.in-Session.session;
        after = c.look_up_in_session.new.shared;
        before_is = ap Some c.in-Session.is;
        after_is = refl;
        arena_is = c.look_up_in_session.ensures.arena;
        did = does.1;
      },
      does.2,
    ))

pub returns-in-RecordedSeat : goal.returns-in-RecordedSeat
returns-in-RecordedSeat c =
    let does = c.look_up_recorded.ensures.does in
    inr (inr (
      does.0,
      record {
        before = c.in-RecordedSeat.seat;
        after = c.look_up_recorded.new.shared;
        before_is = ap Some c.in-RecordedSeat.is;
        after_is = refl;
        arena_is = c.look_up_recorded.ensures.arena;
        did = does.1;
      },
      does.2,
    ))

pub returns-in_default : goal.returns-in_default
returns-in_default c = inl (
  None,
  (HasNoSeat-other c.args.share.now c.in_default.not-Seat c.in_default.not-Session c.in_default.not-RecordedSeat, refl),
  (c.not_looked.ensures.0, c.not_looked.ensures.1, refl),
)
