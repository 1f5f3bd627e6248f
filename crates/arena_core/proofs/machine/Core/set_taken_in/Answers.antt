use Rattle.std.proofs.Common.{◌≢◌, refl, subst, sym, ◌∙◌}
use Rattle.std.proofs.lemmas.Result.{err_from_is_err_and}
use Rattle.shard.specs.Calls.{Sets, was_replaced}
use Rattle.shard.specs.declared.shard.replacing.Replaced.TheVariants.{NotHere}
use Rattle.arena_core.specs.declared.event.Event.TheVariants.{Set}
use Rattle.arena_core.specs.declared.reply.Reply.TheVariants.{Replaced}
use Rattle.arena_core.specs.Kept.{state_of}
use Rattle.arena_core.proofs.FieldSteps.{IsStep-set_home, IsStep-set_refused_home, state_of-same}
use Rattle.arena_core.proofs.Fields.{IsRead, no_read, shard-read, with_shard_at}
use Rattle.arena_core.proofs.FieldsKept.{IsKept-same, IsKept-set}
use Rattle.arena_core.proofs.Moved.{no_other-unnamed, no_other-away, no_other-unmade}
use Rattle.arena_core.proofs.PlanSteps.{IsSoundStep}
use Rattle.arena_core.proofs.machine.Core.set_taken_in.Goals as goal

pub returns-in_default-clause-not_here : goal.returns-in_default-clause-not_here
returns-in_default-clause-not_here g c = λ e. (no_other-unnamed c.self.inside c.self.invariant c.self.view_is c.args.key.now.span (sym c.shard_of.ensures ∙ c.in_default.is), refl)

pub returns-in_default-get_mut-clause-not_here : goal.returns-in_default-get_mut-clause-not_here
returns-in_default-get_mut-clause-not_here g c = λ e. (
  no_other-unmade c.self.inside c.self.invariant c.self.view_is c.args.key.now.span c.in-Some.number
      (sym c.shard_of.ensures ∙ c.in-Some.is) (no_read c.self.inside c.in-Some.number c.in_default-get_mut.ensures.variant.1),
  c.self.view_is,
)

-- the shard refuses

pub invariant_of-self-in_err-replaced : goal.invariant_of-self-in_err-replaced
invariant_of-self-in_err-replaced g c =
    IsKept-same c.self.inside c.self.invariant c.in-Some.number c.in-Some-get_mut.shard.now (record { within = c.in-Some-get_mut.ensures.variant.0 refl; value = c.in-Some-get_mut.ensures.value })
    c.set.new.self c.in_err-replaced.ensures.err

pub returns-in_err-replaced-clause-exact : goal.returns-in_err-replaced-clause-exact
returns-in_err-replaced-clause-exact g c =
    let refused = err_from_is_err_and c.from_residual.result c.from_residual.ensures.1 in
    let step = IsStep-set_refused_home c.self.inside c.args.self.now c.in-Some.number c.args.key.now c.args.words.now c.in-Some-get_mut.shard.now c.set.new.self c.self.view_is c.self.invariant.sound
    (record { within = c.in-Some-get_mut.ensures.variant.0 refl; value = c.in-Some-get_mut.ensures.value }) c.in_err-replaced.ensures.refused c.in_err-replaced.ensures.err in
    rw (refused.1, refused.2) step.exact

pub returns-in_err-replaced-clause-plain : goal.returns-in_err-replaced-clause-plain
returns-in_err-replaced-clause-plain g c =
    let refused = err_from_is_err_and c.from_residual.result c.from_residual.ensures.1 in
    let step = IsStep-set_refused_home c.self.inside c.args.self.now c.in-Some.number c.args.key.now c.args.words.now c.in-Some-get_mut.shard.now c.set.new.self c.self.view_is c.self.invariant.sound
    (record { within = c.in-Some-get_mut.ensures.variant.0 refl; value = c.in-Some-get_mut.ensures.value }) c.in_err-replaced.ensures.refused c.in_err-replaced.ensures.err in
    rw (refused.1, refused.2) step.plain

-- the shard answers

pub invariant_of-self-2 : goal.invariant_of-self-2
invariant_of-self-2 g c =
    IsKept-set c.self.inside c.self.invariant c.in-Some.number c.in-Some-get_mut.shard.now (record { within = c.in-Some-get_mut.ensures.variant.0 refl; value = c.in-Some-get_mut.ensures.value })
    c.args.key.now c.args.words.now c.in_ok-replaced.replaced c.set.new.self c.in_ok-replaced.ensures.step c.in_ok-replaced.ensures.found c.in_ok-replaced.ensures.plain c.set.ensures.sound

step : (g : _) (c : goal.In_ok-replaced g) → (c.in_ok-replaced.replaced ≢ NotHere)
    → IsSoundStep c.args.self.now (Set c.args.key.now c.args.words.now) (Replaced (was_replaced c.in_ok-replaced.replaced)) (state_of (with_shard_at c.self.inside c.in-Some.number c.set.new.self))
step g c here =
    IsStep-set_home c.self.inside c.args.self.now c.in-Some.number c.args.key.now c.args.words.now c.in-Some-get_mut.shard.now c.set.new.self
    c.in_ok-replaced.replaced c.self.view_is c.self.invariant.sound
    (record { within = c.in-Some-get_mut.ensures.variant.0 refl; value = c.in-Some-get_mut.ensures.value }) here
    c.in_ok-replaced.ensures.step c.in_ok-replaced.ensures.found c.in_ok-replaced.ensures.plain c.set.ensures.sound

pub returns-clause-exact : goal.returns-clause-exact
returns-clause-exact g c = λ here. (step g c here).exact

pub returns-clause-plain : goal.returns-clause-plain
returns-clause-plain g c = λ here. (step g c here).plain

pub returns-clause-sound : goal.returns-clause-sound
returns-clause-sound g c = (invariant_of-self-2 g c).sound

pub returns-clause-not_here : goal.returns-clause-not_here
returns-clause-not_here g c = λ e.
    let away : Sets c.in-Some-get_mut.shard.now c.args.key.now c.args.words.now NotHere c.set.new.self = subst
    (λ answer. Sets c.in-Some-get_mut.shard.now c.args.key.now c.args.words.now answer c.set.new.self) e c.in_ok-replaced.ensures.step in
    let read : IsRead c.self.inside c.in-Some.number c.in-Some-get_mut.shard.now = record { within = c.in-Some-get_mut.ensures.variant.0 refl; value = c.in-Some-get_mut.ensures.value } in (
      no_other-away c.self.inside c.self.invariant c.self.view_is c.args.key.now.span c.in-Some.number c.in-Some-get_mut.shard.now
          (sym c.shard_of.ensures ∙ c.in-Some.is) (shard-read c.self.inside c.in-Some.number c.in-Some-get_mut.shard.now read) away.0,
      state_of-same c.self.inside c.in-Some.number c.in-Some-get_mut.shard.now c.set.new.self read away.1 ∙ c.self.view_is,
    )
