use Rattle.std.proofs.Common.{◌∙◌, ap, subst, sym}
use Rattle.std.specs.Prelude.{None, Some}
use Rattle.teurlaks_c.specs.SeatCalls.{AsksEither, HasNoSeat}
use Rattle.teurlaks_c.proofs.session_calls.at_seat_or_session.Goals as goal

pub returns-in_default : goal.returns-in_default
returns-in_default g c =
    let had = ap (λ h. h.share) (sym c.replace.ensures.value) ∙ c.in_default.ensures in
    let none = ap (λ h. h.share) c.replace.ensures.after ∙ c.none.ensures in
    (None, (subst HasNoSeat (sym had) tt, none ∙ sym had), c.no_seat.ensures)

pub returns : goal.returns
returns g c =
    let had = ap (λ h. h.share) (sym c.replace.ensures.value) ∙ c.in-Some.ensures in
    let asked = c.ask_either-reply.ensures in
    let does = g.C.SeatCall.does c.args.call.now in
    let held = g.C.SessionCall.does_held c.args.call.now in (
      asked.0,
      subst (λ old. AsksEither does held old asked.0 c.of.result.share) (sym had)
          (subst (λ share. AsksEither does held (Some share) asked.0 c.of.result.share) c.deref_mut.ensures.value
          (subst (λ new. AsksEither does held (Some c.deref_mut.result.now) asked.0 new) (sym c.of.ensures)
          asked.1)),
      asked.2,
    )
