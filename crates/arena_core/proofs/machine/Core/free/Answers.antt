use Rattle.std.proofs.Common.{refl, subst, sym, ◌∙◌}
use Rattle.arena_core.specs.declared.event.Event.TheVariants.{Free}
use Rattle.arena_core.specs.declared.reply.Reply.TheVariants.{Freed}
use Rattle.arena_core.specs.Kept.{state_of}
use Rattle.arena_core.specs.Plain.{PlainStep}
use Rattle.arena_core.specs.State.{CoreState, shown}
use Rattle.arena_core.specs.Step.{CoreStep}
use Rattle.arena_core.proofs.FieldSteps.{IsStep-free_home, state_of-same}
use Rattle.arena_core.proofs.Fields.{with_shard_at}
use Rattle.arena_core.proofs.FieldsKept.{IsKept-free, IsKept-same}
use Rattle.arena_core.proofs.PlanSteps.{IsSoundStep}
use Rattle.arena_core.proofs.machine.Core.free.Goals as goal

pub invariant_of-self-2 : goal.invariant_of-self-2
invariant_of-self-2 g c =
    IsKept-free c.self.inside c.self.invariant c.args.key.now.span.shard c.in-Some.shard.now (record { within = c.in-Some.ensures.variant.0 refl; value = c.in-Some.ensures.value })
    c.args.key.now c.free_first.result c.free_first.new.self c.free_first.ensures.step c.free_first.ensures.found c.free_first.ensures.plain c.free_first.ensures.sound

done : (g : _) (c : goal.After-was_done g)
    → IsSoundStep c.args.self.now (Free c.args.key.now) (Freed c.was_done.result)
    (state_of (with_shard_at c.self.inside c.args.key.now.span.shard c.free_first.new.self))
done g c =
    subst (λ b. IsSoundStep c.args.self.now (Free c.args.key.now) (Freed b) (state_of (with_shard_at c.self.inside c.args.key.now.span.shard c.free_first.new.self))) (sym c.was_done.ensures)
    (IsStep-free_home c.self.inside c.args.self.now c.args.key.now.span.shard c.args.key.now c.in-Some.shard.now c.free_first.new.self c.free_first.result c.self.view_is c.self.invariant.sound
    (record { within = c.in-Some.ensures.variant.0 refl; value = c.in-Some.ensures.value }) c.free_first.ensures.here
    c.free_first.ensures.step c.free_first.ensures.found c.free_first.ensures.plain c.free_first.ensures.sound)

pub returns-clause-exact : goal.returns-clause-exact
returns-clause-exact g c = (done g c).exact

pub returns-clause-plain : goal.returns-clause-plain
returns-clause-plain g c = (done g c).plain

pub returns-clause-sound : goal.returns-clause-sound
returns-clause-sound g c = (done g c).kept

pub free_first-requires : goal.free_first-requires
free_first-requires g c = c.in-Some-first_index.ensures.place

-- there is no such shard

pub returns-in_default-clause-exact : goal.returns-in_default-clause-exact
returns-in_default-clause-exact g c = subst (λ old. CoreStep old (Free c.args.key.now) (Freed c.free_parts.result) c.free_parts.new.self) c.self.view_is
    (c.free_parts.ensures.exact c.args.key.now (refl, refl, refl))

pub returns-in_default-clause-plain : goal.returns-in_default-clause-plain
returns-in_default-clause-plain g c = subst (λ (old : CoreState). PlainStep old.limits (shown old) (Free c.args.key.now) (Freed c.free_parts.result) (shown c.free_parts.new.self)) c.self.view_is
    (c.free_parts.ensures.plain c.args.key.now (refl, refl, refl))

pub free_parts-requires : goal.free_parts-requires
free_parts-requires g c = c.args.key.now.generation_in_range

-- the span is not noted as a head, and the shard is as it was

pub invariant_of-self-in_default-first_index : goal.invariant_of-self-in_default-first_index
invariant_of-self-in_default-first_index g c =
    IsKept-same c.self.inside c.self.invariant c.args.key.now.span.shard c.in-Some.shard.now (record { within = c.in-Some.ensures.variant.0 refl; value = c.in-Some.ensures.value }) _ refl

pub returns-in_default-first_index-clause-exact : goal.returns-in_default-first_index-clause-exact
returns-in_default-first_index-clause-exact g c = subst (λ old. CoreStep old (Free c.args.key.now) (Freed c.free_parts-in_default-first_index.result) c.free_parts-in_default-first_index.new.self)
    (state_of-same c.self.inside c.args.key.now.span.shard c.in-Some.shard.now _ (record { within = c.in-Some.ensures.variant.0 refl; value = c.in-Some.ensures.value }) refl ∙ c.self.view_is)
    (c.free_parts-in_default-first_index.ensures.exact c.args.key.now (refl, refl, refl))

pub returns-in_default-first_index-clause-plain : goal.returns-in_default-first_index-clause-plain
returns-in_default-first_index-clause-plain g c = subst (λ (old : CoreState). PlainStep old.limits (shown old) (Free c.args.key.now) (Freed c.free_parts-in_default-first_index.result) (shown c.free_parts-in_default-first_index.new.self))
    (state_of-same c.self.inside c.args.key.now.span.shard c.in-Some.shard.now _ (record { within = c.in-Some.ensures.variant.0 refl; value = c.in-Some.ensures.value }) refl ∙ c.self.view_is)
    (c.free_parts-in_default-first_index.ensures.plain c.args.key.now (refl, refl, refl))
