use Rattle.std.proofs.Common.{◌≢◌, refl, subst, sym, ◌∙◌}
use Rattle.shard.specs.Calls.{Frees, was_freed}
use Rattle.shard.specs.declared.shard.Freed.TheVariants.{NotHere}
use Rattle.arena_core.specs.declared.event.Event.TheVariants.{Free}
use Rattle.arena_core.specs.declared.reply.Reply.TheVariants.{Freed}
use Rattle.arena_core.specs.Kept.{state_of}
use Rattle.arena_core.proofs.FieldSteps.{IsStep-free_home, state_of-same}
use Rattle.arena_core.proofs.Fields.{IsRead, no_read, shard-read, with_shard_at}
use Rattle.arena_core.proofs.FieldsKept.{IsKept-free}
use Rattle.arena_core.proofs.Moved.{no_other-unnamed, no_other-away, no_other-unmade}
use Rattle.arena_core.proofs.PlanSteps.{IsSoundStep}
use Rattle.arena_core.proofs.machine.Core.free_taken_in.Goals as goal

pub returns-in_default-clause-not_here : goal.returns-in_default-clause-not_here
returns-in_default-clause-not_here g c = λ e. (no_other-unnamed c.self.inside c.self.invariant c.self.view_is c.args.key.now.span (sym c.shard_of.ensures ∙ c.in_default.is), refl)

pub returns-in_default-get_mut-clause-not_here : goal.returns-in_default-get_mut-clause-not_here
returns-in_default-get_mut-clause-not_here g c = λ e. (
  no_other-unmade c.self.inside c.self.invariant c.self.view_is c.args.key.now.span c.in-Some.number
      (sym c.shard_of.ensures ∙ c.in-Some.is) (no_read c.self.inside c.in-Some.number c.in_default-get_mut.ensures.variant.1),
  c.self.view_is,
)

pub invariant_of-self-2 : goal.invariant_of-self-2
invariant_of-self-2 g c =
    IsKept-free c.self.inside c.self.invariant c.in-Some.number c.in-Some-get_mut.shard.now (record { within = c.in-Some-get_mut.ensures.variant.0 refl; value = c.in-Some-get_mut.ensures.value })
    c.args.key.now c.free.result c.free.new.self c.free.ensures.step c.free.ensures.found c.free.ensures.plain c.free.ensures.sound

step : (g : _) (c : goal.After-self-2-1 g) → (c.free.result ≢ NotHere)
    → IsSoundStep c.args.self.now (Free c.args.key.now) (Freed (was_freed c.free.result))
    (state_of (with_shard_at c.self.inside c.in-Some.number c.free.new.self))
step g c here =
    IsStep-free_home c.self.inside c.args.self.now c.in-Some.number c.args.key.now c.in-Some-get_mut.shard.now c.free.new.self c.free.result c.self.view_is c.self.invariant.sound
    (record { within = c.in-Some-get_mut.ensures.variant.0 refl; value = c.in-Some-get_mut.ensures.value }) here
    c.free.ensures.step c.free.ensures.found c.free.ensures.plain c.free.ensures.sound

pub returns-clause-exact : goal.returns-clause-exact
returns-clause-exact g c = λ here. (step g c here).exact

pub returns-clause-plain : goal.returns-clause-plain
returns-clause-plain g c = λ here. (step g c here).plain

pub returns-clause-sound : goal.returns-clause-sound
returns-clause-sound g c = (invariant_of-self-2 g c).sound

pub returns-clause-not_here : goal.returns-clause-not_here
returns-clause-not_here g c = λ e.
    let away : Frees c.in-Some-get_mut.shard.now c.args.key.now NotHere c.free.new.self = subst
    (λ answer. Frees c.in-Some-get_mut.shard.now c.args.key.now answer c.free.new.self) e c.free.ensures.step in
    let read : IsRead c.self.inside c.in-Some.number c.in-Some-get_mut.shard.now = record { within = c.in-Some-get_mut.ensures.variant.0 refl; value = c.in-Some-get_mut.ensures.value } in (
      no_other-away c.self.inside c.self.invariant c.self.view_is c.args.key.now.span c.in-Some.number c.in-Some-get_mut.shard.now
          (sym c.shard_of.ensures ∙ c.in-Some.is) (shard-read c.self.inside c.in-Some.number c.in-Some-get_mut.shard.now read) away.0,
      state_of-same c.self.inside c.in-Some.number c.in-Some-get_mut.shard.now c.free.new.self read away.1 ∙ c.self.view_is,
    )
