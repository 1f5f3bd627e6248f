use Rattle.std.proofs.Common.{refl, subst, sym}
use Rattle.pool.specs.State.{PoolState}
use Rattle.groups.specs.Group.{HasNoHead, IsElsewhere}
use Rattle.groups.proofs.KnownGuests.{IsElsewhere-guest}
use Rattle.pool.proofs.Here.{HasSpanAt, HasSpanAt-guest}
use Rattle.pool.proofs.stock.Stock.find_guest.Goals as goal

-- it is no guest, and no head either
pub returns-in_default : goal.returns-in_default
returns-in_default g c =
    subst (λ (p : PoolState). IsElsewhere p.groups c.args.id) c.self.view_is
    (IsElsewhere-guest c.self.inside.groups.groups c.self.inside.directory.entries c.self.invariant.guests_known c.args.id c.place_of.result c.place_of.ensures
    (record { head = c.args.id; place = 0 }) (rw c.in_default.is refl)
    (subst (λ (p : PoolState). HasNoHead p.groups c.args.id) (sym c.self.view_is) c.requires))

pub returns-in_err-group : goal.returns-in_err-group
returns-in_err-group g c =
    rw (c.from_residual.ensures) (subst (λ (p : PoolState). IsElsewhere p.groups c.args.id) c.self.view_is
    (IsElsewhere-guest c.self.inside.groups.groups c.self.inside.directory.entries c.self.invariant.guests_known c.args.id c.place_of.result c.place_of.ensures
    c.in-Some.at (rw c.in-Some.is refl) c.in_err-group.ensures))

pub returns : goal.returns
returns g c =
    subst (λ (p : PoolState). HasSpanAt p.groups c.args.id c.in-Some.at.place c.in_ok-group.group.now) c.self.view_is
    (HasSpanAt-guest c.self.inside.groups.groups c.self.inside.directory.entries c.self.invariant.guests_known c.args.id c.place_of.result c.place_of.ensures
    c.in-Some.at (rw c.in-Some.is refl) c.self.invariant.sound.ascending c.in_ok-group.group.now c.in_ok-group.ensures)
