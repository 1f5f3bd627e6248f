use Rattle.std.proofs.Common.{◌≡◌, Some, slice_get, Err, ap, arith, refl, ◌∙◌}
use Rattle.std.proofs.lemmas.Option.{MatchOption-at_some}
use Rattle.std.proofs.lemmas.Result.{err_from_is_err_and}
use Rattle.arena_core.specs.declared.event.Event.TheVariants.{End}
use Rattle.arena_core.specs.declared.reply.Reply.TheVariants.{Refused, ShardEnded}
use Rattle.arena_core.specs.Kept.{shards_of, state_of}
use Rattle.arena_core.specs.State.{shown}
use Rattle.arena_core.specs.Step.{CoreStep}
use Rattle.arena_core.proofs.Fields.{IsRead, shard-read, state_of-unchanged, with_both_at, state_of-with_both_at}
use Rattle.arena_core.proofs.FieldsKept.{GetsNone-Receives, IsKept-both_same, IsKept-unchanged, IsKept-with_both_at}
use Rattle.arena_core.proofs.MadeFields.{CoreStep-end_unreached, IsUnused-unmade}
use Rattle.arena_core.proofs.Moves.{CoreStep-end_refused}
use Rattle.arena_core.proofs.PlanSteps.{IsSoundStep, IsSoundStep-Receives}
use Rattle.arena_core.proofs.Steps.{not_in_pool}
use Rattle.arena_core.proofs.machine.Core.end.Goals as goal
use Rattle.arena_core.proofs.FieldSteps.{at_same, state_of-both_same}

pub end_refusal-requires : goal.end_refusal-requires
end_refusal-requires g c = λ e.
    not_in_pool (state_of (record c.self.inside { shards = c.reach.new.shards })) (IsKept-unchanged c.self.inside (record c.self.inside { shards = c.reach.new.shards }) c.self.invariant refl refl refl refl refl (c.in_ok-reach.ensures {u = tt}).same refl).sound.groups c.args.number c.index_mut-shard.result.now
    (shard-read (record c.self.inside { shards = c.reach.new.shards }) c.args.number c.index_mut-shard.result.now (record { within = (c.in_ok-reach.ensures {u = tt}).here; value = c.index_mut-shard.ensures.value }))
    (c.in-Err.ensures.doubled.0 (ap Err e)).1

pub returns-in-Err-clause-exact : goal.returns-in-Err-clause-exact
returns-in-Err-clause-exact g c =
    let read : IsRead (record c.self.inside { shards = c.reach.new.shards }) c.args.number c.index_mut-shard.result.now = record { within = (c.in_ok-reach.ensures {u = tt}).here; value = c.index_mut-shard.ensures.value } in
    at_same (λ old new. CoreStep old (End c.args.number) (Refused c.end_refusal.result) new) (state_of-unchanged c.self.inside (record c.self.inside { shards = c.reach.new.shards }) refl refl refl refl (c.in_ok-reach.ensures {u = tt}).same refl ∙ c.self.view_is)
    (state_of-both_same (record c.self.inside { shards = c.reach.new.shards }) c.args.number c.index_mut-shard.result.now c.receive.new.shard c.receive.new.self (record c.self.inside { shards = c.reach.new.shards }).whereabouts read c.in-Err.ensures.err_shard c.in-Err.ensures.err)
    (MatchOption-at_some _ _ _ c.end_refusal.ensures (CoreStep-end_refused (state_of (record c.self.inside { shards = c.reach.new.shards })) (IsKept-unchanged c.self.inside (record c.self.inside { shards = c.reach.new.shards }) c.self.invariant refl refl refl refl refl (c.in_ok-reach.ensures {u = tt}).same refl).sound c.args.number 0 c.index_mut-shard.result.now c.in-Err.error
    (shard-read (record c.self.inside { shards = c.reach.new.shards }) c.args.number c.index_mut-shard.result.now read) c.in-Err.ensures.ended c.in-Err.ensures.plan_open)).0

read_shard : (g : _) (c : goal.In-Ok g) → slice_get (shards_of (record c.self.inside { shards = c.reach.new.shards })) c.args.number ≡ Some c.index_mut-shard.result.now
read_shard g c = shard-read (record c.self.inside { shards = c.reach.new.shards }) c.args.number c.index_mut-shard.result.now (record { within = (c.in_ok-reach.ensures {u = tt}).here; value = c.index_mut-shard.ensures.value })

ended : (g : _) (c : goal.In-Ok g)
    → IsSoundStep c.args.self.now (End c.args.number) ShardEnded
    (state_of (with_both_at (record c.self.inside { shards = c.reach.new.shards }) c.args.number c.receive.new.shard c.receive.new.self (record c.self.inside { shards = c.reach.new.shards }).whereabouts))
ended g c =
    at_same (λ old new. IsSoundStep old (End c.args.number) ShardEnded new) (state_of-unchanged c.self.inside (record c.self.inside { shards = c.reach.new.shards }) refl refl refl refl (c.in_ok-reach.ensures {u = tt}).same refl ∙ c.self.view_is)
    (state_of-with_both_at (record c.self.inside { shards = c.reach.new.shards }) c.args.number c.index_mut-shard.result.now c.receive.new.shard c.receive.new.self (record c.self.inside { shards = c.reach.new.shards }).whereabouts (record { within = (c.in_ok-reach.ensures {u = tt}).here; value = c.index_mut-shard.ensures.value }))
    (IsSoundStep-Receives (state_of (record c.self.inside { shards = c.reach.new.shards })) c.args.number c.index_mut-shard.result.now c.receive.new.shard c.receive.new.self (IsKept-unchanged c.self.inside (record c.self.inside { shards = c.reach.new.shards }) c.self.invariant refl refl refl refl refl (c.in_ok-reach.ensures {u = tt}).same refl).sound (read_shard g c)
    (λ closed. let never = c.in-Ok.ensures.plan_open.1 (c.in-Ok.ensures.ok.running, not_in_pool (state_of (record c.self.inside { shards = c.reach.new.shards })) (IsKept-unchanged c.self.inside (record c.self.inside { shards = c.reach.new.shards }) c.self.invariant refl refl refl refl refl (c.in_ok-reach.ensures {u = tt}).same refl).sound.groups c.args.number c.index_mut-shard.result.now (read_shard g c), closed) in cc)
    c.in-Ok.ensures.ok c.receive.ensures.sound_shard c.receive.ensures.sound)

pub invariant_of-self-in-Err : goal.invariant_of-self-in-Err
invariant_of-self-in-Err g c =
    IsKept-both_same (record c.self.inside { shards = c.reach.new.shards }) (IsKept-unchanged c.self.inside (record c.self.inside { shards = c.reach.new.shards }) c.self.invariant refl refl refl refl refl (c.in_ok-reach.ensures {u = tt}).same refl) c.args.number c.index_mut-shard.result.now
    (record { within = (c.in_ok-reach.ensures {u = tt}).here; value = c.index_mut-shard.ensures.value }) c.receive.new.shard c.receive.new.self
    c.in-Err.ensures.err_shard c.in-Err.ensures.err

pub invariant_of-self-2 : goal.invariant_of-self-2
invariant_of-self-2 g c =
    let read : IsRead (record c.self.inside { shards = c.reach.new.shards }) c.args.number c.index_mut-shard.result.now = record { within = (c.in_ok-reach.ensures {u = tt}).here; value = c.index_mut-shard.ensures.value } in
    IsKept-with_both_at (record c.self.inside { shards = c.reach.new.shards }) (IsKept-unchanged c.self.inside (record c.self.inside { shards = c.reach.new.shards }) c.self.invariant refl refl refl refl refl (c.in_ok-reach.ensures {u = tt}).same refl) c.args.number c.index_mut-shard.result.now read c.receive.new.shard c.receive.new.self
    (GetsNone-Receives (record c.self.inside { shards = c.reach.new.shards }) (IsKept-unchanged c.self.inside (record c.self.inside { shards = c.reach.new.shards }) c.self.invariant refl refl refl refl refl (c.in_ok-reach.ensures {u = tt}).same refl) c.args.number c.index_mut-shard.result.now read (record c.self.inside { shards = c.reach.new.shards }).pool c.receive.new.self c.receive.new.shard c.in-Ok.ensures.ok) (ended g c).kept

pub returns-clause-exact : goal.returns-clause-exact
returns-clause-exact g c = (ended g c).exact

pub returns-clause-same : goal.returns-clause-same
returns-clause-same g c = (ended g c).plain

pub returns-clause-sound : goal.returns-clause-sound
returns-clause-sound g c = (ended g c).kept

-- the shard is not made

pub invariant_of-self : goal.invariant_of-self
invariant_of-self g c =
    IsKept-unchanged c.self.inside (record c.self.inside { shards = c.reach.new.shards }) c.self.invariant refl refl refl refl refl (c.in_err-reach.ensures {u = tt}).same refl

pub returns-in_err-reach-clause-exact : goal.returns-in_err-reach-clause-exact
returns-in_err-reach-clause-exact g c =
    let refused = err_from_is_err_and c.from_residual.result c.from_residual.ensures.1 in
    let told = c.in_err-reach.ensures {u = tt} in
    let now = (record c.self.inside { shards = c.reach.new.shards }) in
    rw (refused.1, refused.2)
    (at_same (λ old new. CoreStep old (End c.args.number) (Refused c.in_err-reach.field-0.0) new) c.self.view_is (state_of-unchanged c.self.inside now refl refl refl refl told.same refl)
    (CoreStep-end_unreached (state_of c.self.inside) c.args.number c.in_err-reach.field-0.0 (IsUnused-unmade (state_of c.self.inside) c.self.inside.shards.items c.args.number refl (omega (arith, told.refused.0, c.self.inside.shards.ok.0))) told.refused.1))

pub returns-in_err-reach-clause-same : goal.returns-in_err-reach-clause-same
returns-in_err-reach-clause-same g c = ap shown (state_of-unchanged c.self.inside (record c.self.inside { shards = c.reach.new.shards }) refl refl refl refl (c.in_err-reach.ensures {u = tt}).same refl ∙ c.self.view_is)

pub returns-in_err-reach-clause-sound : goal.returns-in_err-reach-clause-sound
returns-in_err-reach-clause-sound g c =
    (IsKept-unchanged c.self.inside (record c.self.inside { shards = c.reach.new.shards }) c.self.invariant refl refl refl refl refl (c.in_err-reach.ensures {u = tt}).same refl).sound
