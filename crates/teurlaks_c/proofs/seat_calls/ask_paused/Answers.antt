use Rattle.std.proofs.Common.{◌∙◌, ap, refl, subst, sym}
use Rattle.std.specs.Prelude.{Some}
use Rattle.teurlaks_c.proofs.seat_calls.ask_paused.Goals as goal

pub returns : goal.returns
returns g c = record {
  before = c.in-Session.session;
  after = c.ask_seat-answer.new.shared;
  before_is = ap Some (sym c.in-Session.ensures.value);
  after_is = refl;
  arena_is = c.ask_seat-answer.ensures.arena ∙ c.pause-seat.ensures.arena;
  did = subst (λ seat. g.C.SeatCall.does c.args.call.now seat c.ask_seat-answer.result c.ask_seat-answer.new.shared.seat)
      c.pause-seat.ensures.seat c.ask_seat-answer.ensures.does;
}
