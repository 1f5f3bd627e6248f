use Rattle.std.proofs.Common.{◌∙◌, MatchOption, subst, sym}
use Rattle.groups.specs.Group.{IsElsewhere}
use Rattle.pool.specs.Groups.{HasAtPlace}
use Rattle.pool.specs.State.{PoolState, no_groups}
use Rattle.pool.proofs.Started.{shown_in_box}
use Rattle.pool.proofs.pool.Pool.find.Goals as goal

pub returns-in-Some-clause-place : goal.returns-in-Some-clause-place
returns-in-Some-clause-place g c =
    subst (λ (p : PoolState). MatchOption c.find.result (IsElsewhere p.groups c.args.id) (λ at. HasAtPlace p.groups c.args.id at.1 at.0.now))
    (c.deref.ensures ∙ sym (shown_in_box (λ box. box.value) c.self.inside.stock (no_groups c.self.inside.has_plan) c.in-Some.stock c.in-Some.is) ∙ c.self.view_is) c.find.ensures.place
