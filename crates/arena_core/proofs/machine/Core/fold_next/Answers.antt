use Rattle.std.proofs.Common.{◌<◌, arith, subst, sym}
use Rattle.std.proofs.lemmas.Result.{err_from_is_err_and}
use Rattle.span.specs.declared.limits.TheConstants.{MOST_SHARDS}
use Rattle.arena_core.specs.Kept.{shards_of, state_of}
use Rattle.arena_core.specs.Moved.{Notes, StandsIn}
use Rattle.arena_core.specs.State.{CoreState}
use Rattle.arena_core.specs.declared.event.Event.TheVariants.{Step}
use Rattle.arena_core.specs.declared.reply.Refusal.TheVariants.{OutOfMemory}
use Rattle.arena_core.specs.declared.reply.Reply.TheVariants.{Refused, Stepped}
use Rattle.arena_core.specs.Step.{CoreStep}
use Rattle.arena_core.proofs.FieldsKept.{IsKept-noted, IsKept-room_made, IsKept-roomy}
use Rattle.arena_core.proofs.Fields.{shard-read}
use Rattle.arena_core.proofs.Made.{standing-made}
use Rattle.arena_core.proofs.MarkSteps.{IsSoundStep-fold_fields, made-named, number-named, state_of-refused, with_step_at}
use Rattle.arena_core.proofs.Noted.{Comes-Steps}
use Rattle.arena_core.proofs.PlanSteps.{IsSoundStep}
use Rattle.arena_core.proofs.Rooms.{HasAtMost-Steps}
use Rattle.arena_core.proofs.machine.Core.fold_next.Goals as goal

pub returns-in_err-step-clause-exact : goal.returns-in_err-step-clause-exact
returns-in_err-step-clause-exact g c =
    let refused = err_from_is_err_and c.from_residual-in_err-step.result c.from_residual-in_err-step.ensures.1 in
    let step : CoreStep c.args.self.now Step (Refused OutOfMemory)
    (state_of (with_step_at c.self.inside c.args.number c.fold_one.new.shard c.fold_one.new.pool c.self.inside.plan c.reserve.new.self)) = (
      (c.requires.next.0, (c.args.abandoned, c.args.owned), c.requires.next.1),
      state_of-refused c.self.inside c.self.view_is c.args.owned c.args.number c.index_mut-shard.result.now c.fold_one.new.shard c.fold_one.new.pool c.reserve.new.self
          c.requires.there c.index_mut-shard.ensures.value c.in_err-step.ensures.err_shard c.in_err-step.ensures.err,
    ) in
    rw refused.1 step

pub returns-in_err-reserve-clause-exact : goal.returns-in_err-reserve-clause-exact
returns-in_err-reserve-clause-exact g c =
    let refused = err_from_is_err_and c.from_residual.result c.from_residual.ensures.1 in
    let step : CoreStep c.args.self.now Step (Refused OutOfMemory) (state_of (record c.self.inside { whereabouts = c.reserve.new.self })) =
    ((c.requires.next.0, (c.args.abandoned, c.args.owned), c.requires.next.1), c.self.view_is) in
    rw refused.1 step

pub index_mut-shard-requires : goal.index_mut-shard-requires
index_mut-shard-requires g c =
    let there : StandsIn (shards_of c.self.inside) c.args.owned c.args.number = subst (λ (s : CoreState). StandsIn s.shards c.args.owned c.args.number) (sym c.self.view_is) c.requires.there in
    omega (arith, c.self.inside.shards.ok.0, standing-made c.self.inside.limits c.self.inside.shards.items c.args.owned c.args.number there)

pub overflow_cast-number : goal.overflow_cast-number
overflow_cast-number g c =
    let few : c.args.number < MOST_SHARDS = number-named (state_of c.self.inside) c.args.owned c.args.number c.self.invariant.sound.groups
    (subst (λ (s : CoreState). StandsIn s.shards c.args.owned c.args.number) (sym c.self.view_is) c.requires.there) in
    omega arith

stepped : (g : _) (c : goal.After-advance g)
    → IsSoundStep c.args.self.now Step (Stepped c.args.abandoned c.args.owned c.in_ok-step.step)
    (state_of (with_step_at c.self.inside c.args.number c.fold_one.new.shard c.fold_one.new.pool c.advance.new.self c.note.new.self))
stepped g c =
    IsSoundStep-fold_fields c.self.inside c.self.view_is c.requires.next.0
    (c.args.abandoned, c.args.owned) c.args.number c.index_mut-shard.result.now c.fold_one.new.shard c.fold_one.new.pool c.advance.new.self c.note.new.self
    c.in_ok-step.step c.self.invariant.sound c.requires.next.1 c.requires.there
    c.index_mut-shard.ensures.value c.in_ok-step.ensures.ok c.fold_one.ensures.sound_shard c.fold_one.ensures.sound c.advance.ensures

pub invariant_of-self : goal.invariant_of-self
invariant_of-self g c = IsKept-roomy c.self.inside c.reserve.new.self c.self.invariant c.reserve.ensures.entries

pub invariant_of-self-in_err-step : goal.invariant_of-self-in_err-step
invariant_of-self-in_err-step g c =
    let there = made-named c.self.inside c.self.view_is c.args.owned c.args.number c.index_mut-shard.result.now c.requires.there c.index_mut-shard.ensures.value in
    IsKept-room_made c.self.inside c.self.invariant c.args.number c.index_mut-shard.result.now
    there.0 c.fold_one.new.shard c.fold_one.new.pool c.reserve.new.self
    c.in_err-step.ensures.err_shard c.in_err-step.ensures.err c.reserve.ensures.entries

pub span_count-before-requires : goal.span_count-before-requires
span_count-before-requires g c =
    let there = made-named c.self.inside c.self.view_is c.args.owned c.args.number c.index_mut-shard.result.now c.requires.there c.index_mut-shard.ensures.value in
    (c.self.invariant.sound.groups.shards c.args.number c.index_mut-shard.result.now (shard-read c.self.inside c.args.number c.index_mut-shard.result.now there.0)).sound

pub invariant_of-self-2 : goal.invariant_of-self-2
invariant_of-self-2 g c =
    let there = made-named c.self.inside c.self.view_is c.args.owned c.args.number c.index_mut-shard.result.now c.requires.there c.index_mut-shard.ensures.value in
    IsKept-noted c.self.inside c.self.invariant c.args.number c.index_mut-shard.result.now there.0
    c.fold_one.new.shard c.fold_one.new.pool c.advance.new.self c.note.new.self c.args.owned c.span_count-before.result
    (Comes-Steps c.self.inside.pool c.index_mut-shard.result.now c.args.abandoned c.args.owned c.fold_one.new.pool c.fold_one.new.shard
    c.span_count-before.result c.in_ok-step.step c.in_ok-step.ensures.ok c.span_count-before.ensures)
    (subst (λ entries. Notes entries c.note.new.self.entries c.fold_one.new.shard.groups c.args.owned c.span_count-before.result c.args.number)
    (c.reserve.ensures.entries) c.note.ensures) (stepped g c).kept

pub returns-clause-exact : goal.returns-clause-exact
returns-clause-exact g c = (stepped g c).exact

pub returns-clause-same : goal.returns-clause-same
returns-clause-same g c = (stepped g c).plain

pub returns-clause-sound : goal.returns-clause-sound
returns-clause-sound g c = (stepped g c).kept

pub note-requires-clause-room : goal.note-requires-clause-room
note-requires-clause-room g c =
    HasAtMost-Steps c.self.inside.pool c.self.invariant.sound.groups.pool c.index_mut-shard.result.now c.fold_one.new.shard c.fold_one.ensures.sound_shard
    c.spans_to_come.result c.reserve.new.self.room c.in_ok-reserve.ensures.room
    c.args.abandoned c.args.owned c.fold_one.new.pool c.span_count-before.result c.in_ok-step.step c.span_count-before.ensures c.spans_to_come.ensures c.in_ok-step.ensures.ok
