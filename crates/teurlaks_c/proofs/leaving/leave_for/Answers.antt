use Rattle.std.proofs.Common.{◌∙◌, ap, subst, sym}
use Rattle.std.specs.Prelude.{Some}
use Rattle.teurlaks_c.specs.Leaving.{IsNotTaken, LeavesFor, Takes}
use Rattle.teurlaks_c.proofs.TakenBack.{left_for, not_left_for}
use Rattle.teurlaks_c.proofs.leaving.leave_for.Goals as goal

pub returns-in-Ok : goal.returns-in-Ok
returns-in-Ok c =
    let steward = c.args.steward.now in
    let seat = c.args.seat.now.share in
    let left = c.in-Some.left.value in
    let had = ap (λ h. h.share) (sym c.replace.ensures.value) ∙ c.in-Some.ensures in
    let none = ap (λ h. h.share) c.replace.ensures.after ∙ c.none.ensures in
    subst (λ n. LeavesFor (Some steward) seat 0 (Some c.take.new.steward) n) (sym none)
    (left_for steward c.weigh.new.steward left c.take.new.steward seat had c.weigh.ensures.0
    (subst (λ l. Takes c.weigh.new.steward l c.take.new.steward) c.into_inner.ensures c.take.ensures))

pub returns-in-Err : goal.returns-in-Err
returns-in-Err c =
    let had = ap (λ h. h.share) (sym c.replace.ensures.value) ∙ c.in-Some.ensures in
    not_left_for c.args.steward.now c.weigh.new.steward c.in-Some.left.value c.args.seat.now.share c.of.result.share c.in-Err.status had c.of.ensures
    c.weigh.ensures.0
    (subst (λ l. IsNotTaken c.args.steward.now l c.in-Err.status) c.deref.ensures c.in-Err.ensures.1)
