use Rattle.std.proofs.Common.{◌≡◌, true, false, refl, subst, sym, ◌∙◌}
use Rattle.std.proofs.lemmas.Result.{err_from_is_err_and}
use Rattle.shard.specs.Calls.{Sets}
use Rattle.shard.specs.declared.shard.replacing.Replaced.TheVariants.{NotHere as not_here}
use Rattle.arena_core.specs.declared.event.Event.TheVariants.{Set}
use Rattle.arena_core.specs.declared.reply.Reply.TheVariants.{Replaced}
use Rattle.arena_core.specs.Kept.{state_of}
use Rattle.arena_core.specs.Moved.{StandsIn}
use Rattle.arena_core.specs.State.{CoreState}
use Rattle.arena_core.proofs.FieldSteps.{IsStep-set_home, IsStep-set_refused_home, state_of-same}
use Rattle.arena_core.proofs.Fields.{IsRead, no_read, shard-read, with_shard_at}
use Rattle.arena_core.proofs.FieldsKept.{IsKept-set_result}
use Rattle.arena_core.proofs.Made.{unmade-standing}
use Rattle.arena_core.proofs.Moved.{not-standing}
use Rattle.arena_core.proofs.PlanSteps.{IsSoundStep}
use Rattle.arena_core.proofs.machine.Core.set_asked.Goals as goal
use Rattle.arena_core.proofs.machine.Core.set_asked.Goals.{in-NotHere, in_default-matches}

-- the shard is not made

pub set_moved-requires : goal.set_moved-requires
set_moved-requires g c =
    unmade-standing c.self.inside.limits c.self.inside.shards.items c.args.key.now.span c.args.key.now.span.shard
    (no_read c.self.inside c.args.key.now.span.shard c.in_default.ensures.variant.1)

-- the shard was asked

pub invariant_of-self-2 : goal.invariant_of-self-2
invariant_of-self-2 g c =
    IsKept-set_result c.self.inside c.self.invariant c.args.key.now.span.shard c.in-Some.shard.now (record { within = c.in-Some.ensures.variant.0 refl; value = c.in-Some.ensures.value })
    c.args.key.now c.args.words.now c.set.result c.set.new.self c.set.ensures.step c.set.ensures.found c.set.ensures.plain c.set.ensures.err c.set.ensures.sound

-- the shard refuses

pub returns-in_err-replaced-clause-exact : goal.returns-in_err-replaced-clause-exact
returns-in_err-replaced-clause-exact g c =
    let refused = err_from_is_err_and c.from_residual.result c.from_residual.ensures.1 in
    let step = IsStep-set_refused_home c.self.inside c.args.self.now c.args.key.now.span.shard c.args.key.now c.args.words.now c.in-Some.shard.now c.set.new.self c.self.view_is c.self.invariant.sound
    (record { within = c.in-Some.ensures.variant.0 refl; value = c.in-Some.ensures.value }) c.in_err-replaced.ensures.refused c.in_err-replaced.ensures.err in
    rw (refused.1, refused.2) step.exact

pub returns-in_err-replaced-clause-plain : goal.returns-in_err-replaced-clause-plain
returns-in_err-replaced-clause-plain g c =
    let refused = err_from_is_err_and c.from_residual.result c.from_residual.ensures.1 in
    let step = IsStep-set_refused_home c.self.inside c.args.self.now c.args.key.now.span.shard c.args.key.now c.args.words.now c.in-Some.shard.now c.set.new.self c.self.view_is c.self.invariant.sound
    (record { within = c.in-Some.ensures.variant.0 refl; value = c.in-Some.ensures.value }) c.in_err-replaced.ensures.refused c.in_err-replaced.ensures.err in
    rw (refused.1, refused.2) step.plain

-- the shard answers

done : (g : _) (c : goal.After-was_set g)
    → IsSoundStep c.args.self.now (Set c.args.key.now c.args.words.now) (Replaced c.was_set.result)
    (state_of (with_shard_at c.self.inside c.args.key.now.span.shard c.set.new.self))
done g c =
    subst (λ b. IsSoundStep c.args.self.now (Set c.args.key.now c.args.words.now) (Replaced b)
    (state_of (with_shard_at c.self.inside c.args.key.now.span.shard c.set.new.self))) (sym c.was_set.ensures)
    (IsStep-set_home c.self.inside c.args.self.now c.args.key.now.span.shard c.args.key.now c.args.words.now c.in-Some.shard.now c.set.new.self
    c.in_ok-replaced.replaced c.self.view_is c.self.invariant.sound
    (record { within = c.in-Some.ensures.variant.0 refl; value = c.in-Some.ensures.value })
    (elim c.match-matches.branch [
      | in-NotHere w ↦ (λ e. let both : true ≡ false = sym w.matches-is ∙ c.if-matches.false in cc)
      | in_default-matches w ↦ w.in_default-matches.not-NotHere
    ])
    c.in_ok-replaced.ensures.step c.in_ok-replaced.ensures.found c.in_ok-replaced.ensures.plain c.set.ensures.sound)

pub returns-clause-exact : goal.returns-clause-exact
returns-clause-exact g c = (done g c).exact

pub returns-clause-plain : goal.returns-clause-plain
returns-clause-plain g c = (done g c).plain

pub returns-clause-sound : goal.returns-clause-sound
returns-clause-sound g c = (done g c).kept

-- the shard does not have the span

pub set_moved-requires-then-matches : goal.set_moved-requires-then-matches
set_moved-requires-then-matches g c =
    let away : Sets c.in-Some.shard.now c.args.key.now c.args.words.now not_here c.set.new.self = elim c.match-matches.branch [
      | in-NotHere w ↦ subst (λ answer. Sets c.in-Some.shard.now c.args.key.now c.args.words.now answer c.set.new.self) w.in-NotHere.is c.in_ok-replaced.ensures.step
      | in_default-matches w ↦ absurd (let both : false ≡ true = sym w.matches-is ∙ c.if-matches.true in cc)
    ] in
    let read : IsRead c.self.inside c.args.key.now.span.shard c.in-Some.shard.now = record { within = c.in-Some.ensures.variant.0 refl; value = c.in-Some.ensures.value } in
    subst (λ (s : CoreState). StandsIn s.shards c.args.key.now.span c.args.key.now.span.shard
    → ⊥) (sym (state_of-same c.self.inside c.args.key.now.span.shard c.in-Some.shard.now c.set.new.self read away.1))
    (not-standing (state_of c.self.inside) c.self.invariant.sound.groups c.args.key.now.span c.args.key.now.span.shard c.in-Some.shard.now
    (shard-read c.self.inside c.args.key.now.span.shard c.in-Some.shard.now read) away.0)
