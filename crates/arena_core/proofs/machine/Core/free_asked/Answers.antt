use Rattle.std.proofs.Common.{◌≡◌, true, false, refl, subst, sym, ◌∙◌}
use Rattle.shard.specs.Calls.{Frees}
use Rattle.shard.specs.declared.shard.Freed.TheVariants.{NotHere as not_here}
use Rattle.arena_core.specs.declared.event.Event.TheVariants.{Free}
use Rattle.arena_core.specs.declared.reply.Reply.TheVariants.{Freed}
use Rattle.arena_core.specs.Kept.{state_of}
use Rattle.arena_core.specs.Moved.{StandsIn}
use Rattle.arena_core.specs.State.{CoreState}
use Rattle.arena_core.proofs.FieldSteps.{IsStep-free_home, state_of-same}
use Rattle.arena_core.proofs.Fields.{IsRead, no_read, shard-read, with_shard_at}
use Rattle.arena_core.proofs.FieldsKept.{IsKept-free}
use Rattle.arena_core.proofs.Made.{unmade-standing}
use Rattle.arena_core.proofs.Moved.{not-standing}
use Rattle.arena_core.proofs.PlanSteps.{IsSoundStep}
use Rattle.arena_core.proofs.machine.Core.free_asked.Goals as goal
use Rattle.arena_core.proofs.machine.Core.free_asked.Goals.{in-NotHere, in_default-matches}

-- the shard is not made

pub free_moved-requires : goal.free_moved-requires
free_moved-requires g c =
    unmade-standing c.self.inside.limits c.self.inside.shards.items c.args.key.now.span c.args.key.now.span.shard
    (no_read c.self.inside c.args.key.now.span.shard c.in_default.ensures.variant.1)

done : (g : _) (c : goal.After-was_done g)
    → IsSoundStep c.args.self.now (Free c.args.key.now) (Freed c.was_done.result)
    (state_of (with_shard_at c.self.inside c.args.key.now.span.shard c.free-freed.new.self))
done g c =
    subst (λ b. IsSoundStep c.args.self.now (Free c.args.key.now) (Freed b) (state_of (with_shard_at c.self.inside c.args.key.now.span.shard c.free-freed.new.self))) (sym c.was_done.ensures)
    (IsStep-free_home c.self.inside c.args.self.now c.args.key.now.span.shard c.args.key.now c.in-Some.shard.now c.free-freed.new.self c.free-freed.result c.self.view_is c.self.invariant.sound
    (record { within = c.in-Some.ensures.variant.0 refl; value = c.in-Some.ensures.value })
    (elim c.match-matches.branch [
      | in-NotHere w ↦ (λ e. let both : true ≡ false = sym w.matches-is ∙ c.if-matches.false in cc)
      | in_default-matches w ↦ w.in_default-matches.not-NotHere
    ])
    c.free-freed.ensures.step c.free-freed.ensures.found c.free-freed.ensures.plain c.free-freed.ensures.sound)

pub invariant_of-self-2 : goal.invariant_of-self-2
invariant_of-self-2 g c =
    IsKept-free c.self.inside c.self.invariant c.args.key.now.span.shard c.in-Some.shard.now (record { within = c.in-Some.ensures.variant.0 refl; value = c.in-Some.ensures.value })
    c.args.key.now c.free-freed.result c.free-freed.new.self c.free-freed.ensures.step c.free-freed.ensures.found c.free-freed.ensures.plain c.free-freed.ensures.sound

-- the shard was asked, and does not have the span

pub free_moved-requires-then-matches : goal.free_moved-requires-then-matches
free_moved-requires-then-matches g c =
    let away : Frees c.in-Some.shard.now c.args.key.now not_here c.free-freed.new.self = elim c.match-matches.branch [
      | in-NotHere w ↦ subst (λ answer. Frees c.in-Some.shard.now c.args.key.now answer c.free-freed.new.self) w.in-NotHere.is c.free-freed.ensures.step
      | in_default-matches w ↦ absurd (let both : false ≡ true = sym w.matches-is ∙ c.if-matches.true in cc)
    ] in
    let read : IsRead c.self.inside c.args.key.now.span.shard c.in-Some.shard.now = record { within = c.in-Some.ensures.variant.0 refl; value = c.in-Some.ensures.value } in
    subst (λ (s : CoreState). StandsIn s.shards c.args.key.now.span c.args.key.now.span.shard
    → ⊥) (sym (state_of-same c.self.inside c.args.key.now.span.shard c.in-Some.shard.now c.free-freed.new.self read away.1))
    (not-standing (state_of c.self.inside) c.self.invariant.sound.groups c.args.key.now.span c.args.key.now.span.shard c.in-Some.shard.now
    (shard-read c.self.inside c.args.key.now.span.shard c.in-Some.shard.now read) away.0)

pub returns-clause-exact : goal.returns-clause-exact
returns-clause-exact g c = (done g c).exact

pub returns-clause-plain : goal.returns-clause-plain
returns-clause-plain g c = (done g c).plain

pub returns-clause-sound : goal.returns-clause-sound
returns-clause-sound g c = (done g c).kept
