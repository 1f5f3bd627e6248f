use Rattle.std.proofs.Common.{ap, is_some, refl, subst, sym, ◌∙◌}
use Rattle.std.proofs.option.Match.{None-if_not_some}
use Rattle.pool.specs.Calls.{HasNothingToAdopt}
use Rattle.arena_core.specs.Sound.{IsSound}
use Rattle.arena_core.specs.State.{CoreState}
use Rattle.arena_core.proofs.MadeFields.{CoreStep-adopt_unreached, may_take-unused}
use Rattle.arena_core.proofs.Moves.{HasNothingToAdopt-unpaged, unpaged-nothing}
use Rattle.arena_core.proofs.machine.Core.no_adopter.Goals as goal

pub returns-then-is_open : goal.returns-then-is_open
returns-then-is_open g c = (
  may_take-unused c.args.self.now (subst IsSound c.self.view_is c.self.invariant.sound) c.args.number c.requires.unused,
  ap (λ (s : CoreState). is_some s.plan) (sym c.self.view_is) ∙ sym c.is_open.ensures ∙ c.if-is_open.true,
  refl,
)

pub returns-then-pages-eq0 : goal.returns-then-pages-eq0
returns-then-pages-eq0 g c = (
  may_take-unused c.args.self.now (subst IsSound c.self.view_is c.self.invariant.sound) c.args.number c.requires.unused,
  ap (λ (s : CoreState). s.plan) (sym c.self.view_is) ∙ None-if_not_some c.self.inside.plan (sym c.is_open.ensures ∙ c.if-is_open.false),
  subst (λ (s : CoreState). HasNothingToAdopt s.pool) c.self.view_is (HasNothingToAdopt-unpaged c.self.inside.pool (sym c.pages.ensures ∙ c.if-pages-eq0.true)),
  refl,
)

pub returns : goal.returns
returns g c =
    CoreStep-adopt_unreached c.args.self.now (subst IsSound c.self.view_is c.self.invariant.sound) c.args.number c.args.cause c.requires.unused c.requires.cause
    (ap (λ (s : CoreState). s.plan) (sym c.self.view_is) ∙ None-if_not_some c.self.inside.plan (sym c.is_open.ensures ∙ c.if-is_open.false))
    (subst (λ (s : CoreState). HasNothingToAdopt s.pool → ⊥) c.self.view_is (λ nothing. c.if-pages-eq0.false (c.pages.ensures ∙ unpaged-nothing c.self.inside.pool.groups nothing)))
