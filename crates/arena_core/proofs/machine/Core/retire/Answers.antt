use Rattle.std.proofs.Common.{◌≡◌, Some, slice_get, Err, ap, refl}
use Rattle.std.proofs.lemmas.Option.{MatchOption-at_some}
use Rattle.arena_core.specs.declared.event.Event.TheVariants.{Retire}
use Rattle.arena_core.specs.declared.reply.Reply.TheVariants.{Refused, Retired}
use Rattle.arena_core.specs.Kept.{shards_of, state_of}
use Rattle.arena_core.specs.Step.{CoreStep}
use Rattle.arena_core.proofs.Fields.{IsRead, no_read, shard-read, with_both_at, state_of-with_both_at}
use Rattle.arena_core.proofs.FieldsKept.{GetsNone-Retires, IsKept-both_same, IsKept-with_both_at}
use Rattle.arena_core.proofs.PlanSteps.{IsSoundStep, IsSoundStep-Retires}
use Rattle.arena_core.proofs.Steps.{not_in_pool}
use Rattle.arena_core.proofs.MadeFields.{IsUnused-unmade}
use Rattle.arena_core.proofs.machine.Core.retire.Goals as goal
use Rattle.arena_core.proofs.Moves.{CoreStep-end_refused}
use Rattle.arena_core.proofs.FieldSteps.{at_same, state_of-both_same}

pub end_refusal-requires : goal.end_refusal-requires
end_refusal-requires g c = λ e.
    not_in_pool (state_of c.self.inside) c.self.invariant.sound.groups c.args.number c.in-Some.shard.now
    (shard-read c.self.inside c.args.number c.in-Some.shard.now (record { within = c.in-Some.ensures.variant.0 refl; value = c.in-Some.ensures.value }))
    (c.in-Err.ensures.doubled.0 (ap Err e)).1

pub returns-in-Err-clause-exact : goal.returns-in-Err-clause-exact
returns-in-Err-clause-exact g c =
    let read : IsRead c.self.inside c.args.number c.in-Some.shard.now = record { within = c.in-Some.ensures.variant.0 refl; value = c.in-Some.ensures.value } in
    at_same (λ old new. CoreStep old (Retire c.args.number c.args.most) (Refused c.end_refusal.result) new) c.self.view_is
    (state_of-both_same c.self.inside c.args.number c.in-Some.shard.now c.retire.new.shard c.retire.new.self c.self.inside.whereabouts read c.in-Err.ensures.err_shard c.in-Err.ensures.err)
    (MatchOption-at_some _ _ _ c.end_refusal.ensures (CoreStep-end_refused (state_of c.self.inside) c.self.invariant.sound c.args.number c.args.most c.in-Some.shard.now c.in-Err.error
    (shard-read c.self.inside c.args.number c.in-Some.shard.now read) c.in-Err.ensures.ended c.in-Err.ensures.plan_open)).1

read_shard : (g : _) (c : goal.In-Ok g) → slice_get (shards_of c.self.inside) c.args.number ≡ Some c.in-Some.shard.now
read_shard g c = shard-read c.self.inside c.args.number c.in-Some.shard.now (record { within = c.in-Some.ensures.variant.0 refl; value = c.in-Some.ensures.value })

retired : (g : _) (c : goal.In-Ok g)
    → IsSoundStep c.args.self.now (Retire c.args.number c.args.most) (Retired c.in-Ok.count)
    (state_of (with_both_at c.self.inside c.args.number c.retire.new.shard c.retire.new.self c.self.inside.whereabouts))
retired g c =
    at_same (λ old new. IsSoundStep old (Retire c.args.number c.args.most) (Retired c.in-Ok.count) new) c.self.view_is
    (state_of-with_both_at c.self.inside c.args.number c.in-Some.shard.now c.retire.new.shard c.retire.new.self c.self.inside.whereabouts (record { within = c.in-Some.ensures.variant.0 refl; value = c.in-Some.ensures.value }))
    (IsSoundStep-Retires (state_of c.self.inside) c.args.number c.args.most c.in-Ok.count c.in-Some.shard.now c.retire.new.shard c.retire.new.self c.self.invariant.sound (read_shard g c)
    (λ closed. let never = c.in-Ok.ensures.plan_open.1 (c.in-Ok.ensures.ok.running, not_in_pool (state_of c.self.inside) c.self.invariant.sound.groups c.args.number c.in-Some.shard.now (read_shard g c), closed) in cc)
    c.in-Ok.ensures.ok c.in-Ok.ensures.whole c.retire.ensures.sound_shard c.retire.ensures.sound)

pub invariant_of-self-in-Err : goal.invariant_of-self-in-Err
invariant_of-self-in-Err g c =
    IsKept-both_same c.self.inside c.self.invariant c.args.number c.in-Some.shard.now
    (record { within = c.in-Some.ensures.variant.0 refl; value = c.in-Some.ensures.value }) c.retire.new.shard c.retire.new.self c.in-Err.ensures.err_shard
    c.in-Err.ensures.err

pub invariant_of-self-2 : goal.invariant_of-self-2
invariant_of-self-2 g c =
    let read : IsRead c.self.inside c.args.number c.in-Some.shard.now = record { within = c.in-Some.ensures.variant.0 refl; value = c.in-Some.ensures.value } in
    IsKept-with_both_at c.self.inside c.self.invariant c.args.number c.in-Some.shard.now read c.retire.new.shard c.retire.new.self
    (GetsNone-Retires c.self.inside c.self.invariant c.args.number c.in-Some.shard.now read c.self.inside.pool c.retire.new.self c.args.most c.in-Ok.count
    c.retire.new.shard (c.self.invariant.sound.groups.shards c.args.number c.in-Some.shard.now (read_shard g c)).sound c.retire.ensures.sound_shard
    c.in-Ok.ensures.ok) (retired g c).kept

pub returns-clause-exact : goal.returns-clause-exact
returns-clause-exact g c = (retired g c).exact

pub returns-clause-same : goal.returns-clause-same
returns-clause-same g c = (retired g c).plain

pub returns-clause-sound : goal.returns-clause-sound
returns-clause-sound g c = (retired g c).kept

-- the shard is not made

pub retire_none-requires : goal.retire_none-requires
retire_none-requires g c = IsUnused-unmade (state_of c.self.inside) c.self.inside.shards.items c.args.number refl (no_read c.self.inside c.args.number c.in_default.ensures.variant.1)
