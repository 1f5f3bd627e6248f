use mathlib.Core.Logic.{inl}
use Rattle.std.proofs.Common.{◌∙◌, ap, refl, subst, sym}
use Rattle.std.specs.Prelude.{None, Some}
use Rattle.teurlaks_c.specs.SeatCalls.{GetsKey, HasNoSeat}
use Rattle.teurlaks_c.proofs.session_calls.look_up_at_seat.Goals as goal

pub returns-in_default : goal.returns-in_default
returns-in_default c =
    let had = ap (λ h. h.share) (sym c.replace.ensures.value) ∙ c.in_default.ensures in
    let none = ap (λ h. h.share) c.replace.ensures.after ∙ c.none.ensures in
    inl (None, (subst HasNoSeat (sym had) tt, none ∙ sym had), (refl, refl, refl))

pub returns : goal.returns
returns c =
    let had = ap (λ h. h.share) (sym c.replace.ensures.value) ∙ c.in-Some.ensures in
    let looked = c.look_up_at_share-says in
    subst (λ old. GetsKey old c.args.key.now c.args.room.now looked.result looked.new.room c.of.result.share) (sym had)
    (subst (λ share. GetsKey (Some share) c.args.key.now c.args.room.now looked.result looked.new.room c.of.result.share) c.deref_mut.ensures.value
    (subst (λ new. GetsKey (Some c.deref_mut.result.now) c.args.key.now c.args.room.now looked.result looked.new.room new) (sym c.of.ensures)
    looked.ensures))
