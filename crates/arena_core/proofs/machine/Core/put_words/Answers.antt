use Rattle.std.proofs.Common.{ap, arith, refl, subst, sym, ◌∙◌}
use Rattle.std.proofs.lemmas.Result.{err_from_is_err_and}
use Rattle.shard.specs.Calls.{Puts}
use Rattle.span.specs.Classes.{class_of}
use Rattle.span.proofs.Widths.{class_of-width}
use Rattle.arena_core.specs.declared.event.Event.TheVariants.{Put}
use Rattle.arena_core.specs.declared.reply.Reply.TheVariants.{Issued, Refused}
use Rattle.arena_core.specs.Kept.{state_of}
use Rattle.arena_core.specs.Refusals.{refusal_of}
use Rattle.arena_core.specs.State.{shown}
use Rattle.arena_core.specs.Step.{CoreStep}
use Rattle.arena_core.proofs.FieldSteps.{PlainStep-refused, state_of-same, at_same}
use Rattle.arena_core.proofs.Fields.{IsRead, state_of-unchanged, with_shard_at, shard-read, state_of-with_shard_at}
use Rattle.arena_core.proofs.FieldsKept.{GetsNone-Puts, IsKept-same, IsKept-unchanged, IsKept-with_shard_at}
use Rattle.arena_core.proofs.MadeFields.{CoreStep-put_unreached, IsUnused-unmade, PlainStep-put_unreached}
use Rattle.arena_core.proofs.PlanSteps.{IsSoundStep, IsSoundStep-Puts}
use Rattle.arena_core.proofs.machine.Core.put_words.Goals as goal
use Rattle.arena_core.proofs.Steps.{CoreStep-refused}

puts : (g : _) (c : goal.After-key-1 g) → Puts c.index_mut-shard.result.now (class_of c.args.words.now) c.args.words.now c.in_ok-key.key c.in_ok-key.field-0-1 c.put_words.new.self
puts g c = subst (λ class. Puts c.index_mut-shard.result.now class c.args.words.now c.in_ok-key.key c.in_ok-key.field-0-1 c.put_words.new.self)
    (sym (class_of-width c.args.words.now c.args.class c.requires)) c.in_ok-key.ensures.ok

issued : (g : _) (c : goal.After-key-1 g)
    → IsSoundStep c.args.self.now (Put c.args.number c.args.words.now) (Issued c.in_ok-key.key)
    (state_of (with_shard_at (record c.self.inside { shards = c.reach.new.shards }) c.args.number c.put_words.new.self))
issued g c =
    at_same (λ old new. IsSoundStep old (Put c.args.number c.args.words.now) (Issued c.in_ok-key.key) new) (state_of-unchanged c.self.inside (record c.self.inside { shards = c.reach.new.shards }) refl refl refl refl (c.in_ok-reach.ensures {u = tt}).same refl ∙ c.self.view_is)
    (state_of-with_shard_at (record c.self.inside { shards = c.reach.new.shards }) c.args.number c.index_mut-shard.result.now c.put_words.new.self (record { within = (c.in_ok-reach.ensures {u = tt}).here; value = c.index_mut-shard.ensures.value }))
    (IsSoundStep-Puts (state_of (record c.self.inside { shards = c.reach.new.shards })) c.args.number c.args.words.now c.in_ok-key.key c.in_ok-key.field-0-1 c.index_mut-shard.result.now c.put_words.new.self (IsKept-unchanged c.self.inside (record c.self.inside { shards = c.reach.new.shards }) c.self.invariant refl refl refl refl refl (c.in_ok-reach.ensures {u = tt}).same refl).sound
    (shard-read (record c.self.inside { shards = c.reach.new.shards }) c.args.number c.index_mut-shard.result.now (record { within = (c.in_ok-reach.ensures {u = tt}).here; value = c.index_mut-shard.ensures.value })) (puts g c) c.in_ok-key.ensures.fresh c.in_ok-key.ensures.plain c.put_words.ensures.sound)

pub returns-in_err-key-clause-exact : goal.returns-in_err-key-clause-exact
returns-in_err-key-clause-exact g c =
    let refused = err_from_is_err_and c.from_residual-in_err-key.result c.from_residual-in_err-key.ensures.1 in
    let read : IsRead (record c.self.inside { shards = c.reach.new.shards }) c.args.number c.index_mut-shard.result.now = record { within = (c.in_ok-reach.ensures {u = tt}).here; value = c.index_mut-shard.ensures.value } in
    let step = at_same (λ old new. CoreStep old (Put c.args.number c.args.words.now) (Refused (refusal_of c.in_err-key.field-0.0)) new)
    (state_of-unchanged c.self.inside (record c.self.inside { shards = c.reach.new.shards }) refl refl refl refl (c.in_ok-reach.ensures {u = tt}).same refl ∙ c.self.view_is) (state_of-same (record c.self.inside { shards = c.reach.new.shards }) c.args.number c.index_mut-shard.result.now c.put_words.new.self read c.in_err-key.ensures.err)
    (CoreStep-refused (state_of (record c.self.inside { shards = c.reach.new.shards })) c.args.number c.args.words.now c.index_mut-shard.result.now c.in_err-key.field-0.0
    (shard-read (record c.self.inside { shards = c.reach.new.shards }) c.args.number c.index_mut-shard.result.now read) (rw (← class_of-width c.args.words.now c.args.class c.requires) at c.in_err-key.ensures.spent) c.in_err-key.ensures.ended) in
    rw (refused.1, refused.2) step

pub returns-in_err-key-clause-plain : goal.returns-in_err-key-clause-plain
returns-in_err-key-clause-plain g c =
    let refused = err_from_is_err_and c.from_residual-in_err-key.result c.from_residual-in_err-key.ensures.1 in
    let same = state_of-same (record c.self.inside { shards = c.reach.new.shards }) c.args.number c.index_mut-shard.result.now c.put_words.new.self
    (record { within = (c.in_ok-reach.ensures {u = tt}).here; value = c.index_mut-shard.ensures.value }) c.in_err-key.ensures.err in
    let step = PlainStep-refused c.args.self.now.limits (shown c.args.self.now)
    (shown (state_of (with_shard_at (record c.self.inside { shards = c.reach.new.shards }) c.args.number c.put_words.new.self))) c.args.number c.args.words.now c.in_err-key.field-0.0
    (ap shown (same ∙ (state_of-unchanged c.self.inside (record c.self.inside { shards = c.reach.new.shards }) refl refl refl refl (c.in_ok-reach.ensures {u = tt}).same refl ∙ c.self.view_is))) in
    rw (refused.1, refused.2) step

pub invariant_of-self-in_err-key : goal.invariant_of-self-in_err-key
invariant_of-self-in_err-key g c = IsKept-same (record c.self.inside { shards = c.reach.new.shards }) (IsKept-unchanged c.self.inside (record c.self.inside { shards = c.reach.new.shards }) c.self.invariant refl refl refl refl refl (c.in_ok-reach.ensures {u = tt}).same refl) c.args.number c.index_mut-shard.result.now
    (record { within = (c.in_ok-reach.ensures {u = tt}).here; value = c.index_mut-shard.ensures.value }) c.put_words.new.self c.in_err-key.ensures.err

pub invariant_of-self-2 : goal.invariant_of-self-2
invariant_of-self-2 g c =
    let read : IsRead (record c.self.inside { shards = c.reach.new.shards }) c.args.number c.index_mut-shard.result.now = record { within = (c.in_ok-reach.ensures {u = tt}).here; value = c.index_mut-shard.ensures.value } in
    IsKept-with_shard_at (record c.self.inside { shards = c.reach.new.shards }) (IsKept-unchanged c.self.inside (record c.self.inside { shards = c.reach.new.shards }) c.self.invariant refl refl refl refl refl (c.in_ok-reach.ensures {u = tt}).same refl) c.args.number c.index_mut-shard.result.now read c.put_words.new.self
    (GetsNone-Puts (record c.self.inside { shards = c.reach.new.shards }) (IsKept-unchanged c.self.inside (record c.self.inside { shards = c.reach.new.shards }) c.self.invariant refl refl refl refl refl (c.in_ok-reach.ensures {u = tt}).same refl) c.args.number c.index_mut-shard.result.now read c.args.words.now c.in_ok-key.key c.in_ok-key.field-0-1 c.put_words.new.self (puts g c)) (issued g c).kept

pub returns-clause-exact : goal.returns-clause-exact
returns-clause-exact g c = (issued g c).exact

pub returns-clause-plain : goal.returns-clause-plain
returns-clause-plain g c = (issued g c).plain

pub returns-clause-sound : goal.returns-clause-sound
returns-clause-sound g c = (issued g c).kept

-- the shard is not made

pub invariant_of-self : goal.invariant_of-self
invariant_of-self g c =
    IsKept-unchanged c.self.inside (record c.self.inside { shards = c.reach.new.shards }) c.self.invariant refl refl refl refl refl (c.in_err-reach.ensures {u = tt}).same refl

pub returns-in_err-reach-clause-exact : goal.returns-in_err-reach-clause-exact
returns-in_err-reach-clause-exact g c =
    let refused = err_from_is_err_and c.from_residual.result c.from_residual.ensures.1 in
    let told = c.in_err-reach.ensures {u = tt} in
    let now = (record c.self.inside { shards = c.reach.new.shards }) in
    rw (refused.1, refused.2)
    (at_same (λ old new. CoreStep old (Put c.args.number c.args.words.now) (Refused c.in_err-reach.field-0.0) new) c.self.view_is (state_of-unchanged c.self.inside now refl refl refl refl told.same refl)
    (CoreStep-put_unreached (state_of c.self.inside) c.args.number c.args.words.now c.in_err-reach.field-0.0 c.self.invariant.sound.groups.within (IsUnused-unmade (state_of c.self.inside) c.self.inside.shards.items c.args.number refl (omega (arith, told.refused.0, c.self.inside.shards.ok.0))) told.refused.1))

pub returns-in_err-reach-clause-sound : goal.returns-in_err-reach-clause-sound
returns-in_err-reach-clause-sound g c =
    (IsKept-unchanged c.self.inside (record c.self.inside { shards = c.reach.new.shards }) c.self.invariant refl refl refl refl refl (c.in_err-reach.ensures {u = tt}).same refl).sound

pub returns-in_err-reach-clause-plain : goal.returns-in_err-reach-clause-plain
returns-in_err-reach-clause-plain g c =
    let refused = err_from_is_err_and c.from_residual.result c.from_residual.ensures.1 in
    let told = c.in_err-reach.ensures {u = tt} in
    let now = (record c.self.inside { shards = c.reach.new.shards }) in
    let step = PlainStep-put_unreached c.args.self.now.limits (shown c.args.self.now) (shown (state_of now)) c.args.number c.self.inside.limits.shards c.args.words.now c.in_err-reach.field-0.0 told.refused.1
    (ap shown (state_of-unchanged c.self.inside now refl refl refl refl told.same refl ∙ c.self.view_is)) in
    rw (refused.1, refused.2) step
