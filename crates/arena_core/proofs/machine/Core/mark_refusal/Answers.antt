use Rattle.std.proofs.Common.{ap, map-id, refl, subst, sym, ◌∙◌, true≢false}
use Rattle.std.proofs.option.Match.{None-if_not_some}
use Rattle.marks.specs.Seen.{AreTooMany}
use Rattle.arena_core.specs.State.{CoreState}
use Rattle.arena_core.specs.Step.{HasTooMany}
use Rattle.arena_core.proofs.MadeMarked.{AreTooMany-all, AreTooMany-made}
use Rattle.arena_core.proofs.machine.Core.mark_refusal.Goals as goal

pub returns-then-has_too_many-clause-why : goal.returns-then-has_too_many-clause-why
returns-then-has_too_many-clause-why g c =
    let here = subst (AreTooMany c.self.inside.pool) (map-id c.deref.result.now ∙ c.deref.ensures.value) (c.has_too_many.ensures.0 c.if-has_too_many.true) in (
      ap (λ (s : CoreState). s.plan) (sym c.self.view_is) ∙ None-if_not_some c.self.inside.plan (sym c.is_open.ensures ∙ c.if-is_open.false),
      subst HasTooMany c.self.view_is (AreTooMany-all c.self.inside.limits c.self.inside.shards.items c.self.inside.pool here),
      refl,
    )

pub returns-clause-why : goal.returns-clause-why
returns-clause-why g c = (
  ap (λ (s : CoreState). s.plan) (sym c.self.view_is) ∙ None-if_not_some c.self.inside.plan (sym c.is_open.ensures ∙ c.if-is_open.false),
  λ many.
      let here : AreTooMany c.self.inside.pool c.self.inside.shards.items = AreTooMany-made c.self.inside.limits c.self.inside.shards.items c.self.inside.pool (subst HasTooMany (sym c.self.view_is) many) in
      let told = c.has_too_many.ensures.1 (subst (AreTooMany c.self.inside.pool) (sym (map-id c.deref.result.now ∙ c.deref.ensures.value)) here) in
      true≢false (sym told ∙ c.if-has_too_many.false),
)
