use Rattle.std.proofs.Common.{◌∙◌, ap, subst, sym}
use Rattle.std.specs.Prelude.{None, Ok, Some}
use Rattle.teurlaks_c.specs.SeatCalls.{AsksTold, HasNoSeat}
use Rattle.teurlaks_c.proofs.recorded_calls.tell_at_seat.Goals as goal

pub returns-in_default : goal.returns-in_default
returns-in_default g c =
    let had = ap (λ h. h.share) (sym c.replace.ensures.value) ∙ c.in_default.ensures in
    let none = ap (λ h. h.share) c.replace.ensures.after ∙ c.none.ensures in
    (Ok None, (subst HasNoSeat (sym had) tt, none ∙ sym had), c.no_seat.ensures)

pub returns : goal.returns
returns g c =
    let had = ap (λ h. h.share) (sym c.replace.ensures.value) ∙ c.in-Some.ensures in
    let told = c.tell_at_share-reply.ensures in
    let does = g.C.SeatCall.does c.args.call.now in
    let held = g.C.SessionCall.does_held c.args.call.now in
    let kept = g.C.ToldCall.told c.args.call.now in (
      told.0,
      subst (λ old. AsksTold does held kept old told.0 c.of.result.share) (sym had)
          (subst (λ share. AsksTold does held kept (Some share) told.0 c.of.result.share) c.deref_mut.ensures.value
          (subst (λ new. AsksTold does held kept (Some c.deref_mut.result.now) told.0 new) (sym c.of.ensures)
          told.1)),
      told.2,
    )
