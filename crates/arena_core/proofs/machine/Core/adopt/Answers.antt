use Rattle.std.proofs.Common.{◌≡◌, ◌≢◌, ◌∙◌, ◌<◌, false, length, slice_get, Some, Err, ap, arith, refl, subst, sym}
use Rattle.std.proofs.lemmas.Option.{MatchOption-at_some}
use Rattle.std.proofs.lemmas.Result.{err_from_is_err_and}
use Rattle.pool.specs.Calls.{Adopts, IsDoubled}
use Rattle.pool.specs.State.{PoolState}
use Rattle.pool.specs.declared.error.AdoptError.TheVariants as adopt_error
use Rattle.span.specs.declared.limits.TheConstants.{MOST_SHARDS}
use Rattle.arena_core.specs.declared.machine.Core.TheInside.{Inside}
use Rattle.arena_core.specs.declared.event.Event.TheVariants.{Adopt}
use Rattle.arena_core.specs.declared.reply.Refusal.TheVariants.{OutOfMemory}
use Rattle.arena_core.specs.declared.reply.Reply.TheVariants.{Adopted, Refused}
use Rattle.arena_core.specs.Kept.{IsKept, shards_of, state_of}
use Rattle.arena_core.specs.Made.{IsUnused}
use Rattle.arena_core.specs.Moved.{Notes}
use Rattle.arena_core.specs.State.{CoreState, shown}
use Rattle.arena_core.specs.Step.{CoreStep}
use Rattle.arena_core.proofs.FieldSteps.{no_plan_if_adopted, at_same, state_of-both_same}
use Rattle.arena_core.proofs.Fields.{IsRead, shard-read, state_of-unchanged, with_both_at, state_of-with_both_at}
use Rattle.arena_core.proofs.FieldsKept.{IsKept-both_same, IsKept-noted, IsKept-room_made, IsKept-unchanged}
use Rattle.arena_core.proofs.Made.{made-few}
use Rattle.arena_core.proofs.MadeFields.{IsUnused-unmade}
use Rattle.arena_core.proofs.Noted.{Comes-Adopts}
use Rattle.std.proofs.lemmas.Bool.{false_from_ne_true}
use Rattle.arena_core.proofs.Moves.{CoreStep-adopt_refused, IsRefused}
use Rattle.arena_core.proofs.PlanSteps.{IsSoundStep, IsSoundStep-Adopts}
use Rattle.arena_core.proofs.Rooms.{CountsPaged, HasAtMost-Adopts}
use Rattle.arena_core.proofs.Steps.{not_doubled}
use Rattle.arena_core.proofs.machine.Core.adopt.Goals as goal

pub adopt_refusal-requires : goal.adopt_refusal-requires
adopt_refusal-requires g c = λ e.
    let facts = c.in-Err-adoptable.ensures.doubled.0 (ap Err e) in
    not_doubled (state_of (record c.self.inside { shards = c.reach.new.shards })) (IsKept-unchanged c.self.inside (record c.self.inside { shards = c.reach.new.shards }) c.self.invariant refl refl refl refl refl (c.in-Ok.ensures {u = tt}).same refl).sound.groups c.args.number c.index_mut-shard.result.now
    (shard-read (record c.self.inside { shards = c.reach.new.shards }) c.args.number c.index_mut-shard.result.now (record { within = (c.in-Ok.ensures {u = tt}).here; value = c.index_mut-shard.ensures.value }))
    facts.1 facts.2

-- the pool tells that nothing may be adopted

pub returns-in-Err-adoptable-clause-exact : goal.returns-in-Err-adoptable-clause-exact
returns-in-Err-adoptable-clause-exact g c =
    let read : IsRead (record c.self.inside { shards = c.reach.new.shards }) c.args.number c.index_mut-shard.result.now = record { within = (c.in-Ok.ensures {u = tt}).here; value = c.index_mut-shard.ensures.value } in
    at_same (λ old new. CoreStep old (Adopt c.args.number) (Refused c.adopt_refusal.result) new) (state_of-unchanged c.self.inside (record c.self.inside { shards = c.reach.new.shards }) refl refl refl refl (c.in-Ok.ensures {u = tt}).same refl ∙ c.self.view_is)
    (state_of-both_same (record c.self.inside { shards = c.reach.new.shards }) c.args.number c.index_mut-shard.result.now c.index_mut-shard.result.now c.adoptable.new.self (record c.self.inside { shards = c.reach.new.shards }).whereabouts read refl c.adoptable.ensures.same)
    (MatchOption-at_some _ _ _ c.adopt_refusal.ensures (CoreStep-adopt_refused (state_of (record c.self.inside { shards = c.reach.new.shards })) (IsKept-unchanged c.self.inside (record c.self.inside { shards = c.reach.new.shards }) c.self.invariant refl refl refl refl refl (c.in-Ok.ensures {u = tt}).same refl).sound c.args.number c.index_mut-shard.result.now c.in-Err-adoptable.error
    (shard-read (record c.self.inside { shards = c.reach.new.shards }) c.args.number c.index_mut-shard.result.now read) (record {
      spent = c.in-Err-adoptable.ensures.spent;
      ended = c.in-Err-adoptable.ensures.ended;
      plan_open = c.in-Err-adoptable.ensures.plan_open;
      nothing = c.in-Err-adoptable.ensures.nothing;
    })))

pub invariant_of-self-in-Err-adoptable : goal.invariant_of-self-in-Err-adoptable
invariant_of-self-in-Err-adoptable g c =
    IsKept-both_same (record c.self.inside { shards = c.reach.new.shards }) (IsKept-unchanged c.self.inside (record c.self.inside { shards = c.reach.new.shards }) c.self.invariant refl refl refl refl refl (c.in-Ok.ensures {u = tt}).same refl) c.args.number c.index_mut-shard.result.now
    (record { within = (c.in-Ok.ensures {u = tt}).here; value = c.index_mut-shard.ensures.value }) c.index_mut-shard.result.now c.adoptable.new.self refl
    c.adoptable.ensures.same

-- room for the notes is refused

pub returns-in_err-reserve-clause-exact : goal.returns-in_err-reserve-clause-exact
returns-in_err-reserve-clause-exact g c =
    let refused = err_from_is_err_and c.from_residual.result c.from_residual.ensures.1 in
    let read : IsRead (record c.self.inside { shards = c.reach.new.shards }) c.args.number c.index_mut-shard.result.now = record { within = (c.in-Ok.ensures {u = tt}).here; value = c.index_mut-shard.ensures.value } in
    let step = at_same (λ old new. CoreStep old (Adopt c.args.number) (Refused OutOfMemory) new) (state_of-unchanged c.self.inside (record c.self.inside { shards = c.reach.new.shards }) refl refl refl refl (c.in-Ok.ensures {u = tt}).same refl ∙ c.self.view_is)
    (state_of-both_same (record c.self.inside { shards = c.reach.new.shards }) c.args.number c.index_mut-shard.result.now c.index_mut-shard.result.now c.adoptable.new.self c.reserve.new.self read refl c.adoptable.ensures.same)
    (CoreStep-adopt_refused (state_of (record c.self.inside { shards = c.reach.new.shards })) (IsKept-unchanged c.self.inside (record c.self.inside { shards = c.reach.new.shards }) c.self.invariant refl refl refl refl refl (c.in-Ok.ensures {u = tt}).same refl).sound c.args.number c.index_mut-shard.result.now adopt_error.OutOfMemory
    (shard-read (record c.self.inside { shards = c.reach.new.shards }) c.args.number c.index_mut-shard.result.now read) (record {
      spent = ((λ e. absurd cc), (λ p. let never = c.in-Ok-adoptable.ensures.spent.1 p in absurd cc));
      ended = ((λ e. absurd cc), (λ p. let never = c.in-Ok-adoptable.ensures.ended.1 p in absurd cc));
      plan_open = ((λ e. absurd cc), (λ p. let never = c.in-Ok-adoptable.ensures.plan_open.1 p in absurd cc));
      nothing = ((λ e. absurd cc), (λ p. let never = c.in-Ok-adoptable.ensures.nothing.1 p in absurd cc));
    })) in
    rw (refused.1, refused.2) step

pub invariant_of-self-in_err-reserve : goal.invariant_of-self-in_err-reserve
invariant_of-self-in_err-reserve g c =
    IsKept-room_made (record c.self.inside { shards = c.reach.new.shards }) (IsKept-unchanged c.self.inside (record c.self.inside { shards = c.reach.new.shards }) c.self.invariant refl refl refl refl refl (c.in-Ok.ensures {u = tt}).same refl) c.args.number c.index_mut-shard.result.now
    (record { within = (c.in-Ok.ensures {u = tt}).here; value = c.index_mut-shard.ensures.value }) c.index_mut-shard.result.now c.adoptable.new.self c.reserve.new.self refl
    c.adoptable.ensures.same c.reserve.ensures.entries

-- the adoption is refused

pub adopt_refusal-requires-in-Err-adopt : goal.adopt_refusal-requires-in-Err-adopt
adopt_refusal-requires-in-Err-adopt g c = λ e.
    let facts = c.in-Err-adopt.ensures.doubled.0 (ap Err e) in
    not_doubled (state_of (record c.self.inside { shards = c.reach.new.shards })) (IsKept-unchanged c.self.inside (record c.self.inside { shards = c.reach.new.shards }) c.self.invariant refl refl refl refl refl (c.in-Ok.ensures {u = tt}).same refl).sound.groups c.args.number c.index_mut-shard.result.now
    (shard-read (record c.self.inside { shards = c.reach.new.shards }) c.args.number c.index_mut-shard.result.now (record { within = (c.in-Ok.ensures {u = tt}).here; value = c.index_mut-shard.ensures.value }))
    facts.1 (subst (λ (pool : PoolState). IsDoubled pool c.index_mut-shard.result.now) c.adoptable.ensures.same facts.2)

pub returns-in-Err-adopt-clause-exact : goal.returns-in-Err-adopt-clause-exact
returns-in-Err-adopt-clause-exact g c =
    let read : IsRead (record c.self.inside { shards = c.reach.new.shards }) c.args.number c.index_mut-shard.result.now = record { within = (c.in-Ok.ensures {u = tt}).here; value = c.index_mut-shard.ensures.value } in
    at_same (λ old new. CoreStep old (Adopt c.args.number) (Refused c.adopt_refusal-in-Err-adopt.result) new) (state_of-unchanged c.self.inside (record c.self.inside { shards = c.reach.new.shards }) refl refl refl refl (c.in-Ok.ensures {u = tt}).same refl ∙ c.self.view_is)
    (state_of-both_same (record c.self.inside { shards = c.reach.new.shards }) c.args.number c.index_mut-shard.result.now c.adopt.new.shard c.adopt.new.self c.reserve.new.self read c.in-Err-adopt.ensures.err_shard (c.in-Err-adopt.ensures.err ∙ c.adoptable.ensures.same))
    (MatchOption-at_some _ _ _ c.adopt_refusal-in-Err-adopt.ensures (CoreStep-adopt_refused (state_of (record c.self.inside { shards = c.reach.new.shards })) (IsKept-unchanged c.self.inside (record c.self.inside { shards = c.reach.new.shards }) c.self.invariant refl refl refl refl refl (c.in-Ok.ensures {u = tt}).same refl).sound c.args.number c.index_mut-shard.result.now c.in-Err-adopt.error
    (shard-read (record c.self.inside { shards = c.reach.new.shards }) c.args.number c.index_mut-shard.result.now read)
    (subst (λ pool. IsRefused pool c.index_mut-shard.result.now c.in-Err-adopt.error) c.adoptable.ensures.same (record {
      spent = c.in-Err-adopt.ensures.spent;
      ended = c.in-Err-adopt.ensures.ended;
      plan_open = c.in-Err-adopt.ensures.plan_open;
      nothing = c.in-Err-adopt.ensures.nothing;
    }))))

pub invariant_of-self-in-Err-adopt : goal.invariant_of-self-in-Err-adopt
invariant_of-self-in-Err-adopt g c =
    IsKept-room_made (record c.self.inside { shards = c.reach.new.shards }) (IsKept-unchanged c.self.inside (record c.self.inside { shards = c.reach.new.shards }) c.self.invariant refl refl refl refl refl (c.in-Ok.ensures {u = tt}).same refl) c.args.number c.index_mut-shard.result.now
    (record { within = (c.in-Ok.ensures {u = tt}).here; value = c.index_mut-shard.ensures.value }) c.adopt.new.shard c.adopt.new.self c.reserve.new.self
    c.in-Err-adopt.ensures.err_shard (c.in-Err-adopt.ensures.err ∙ c.adoptable.ensures.same) c.reserve.ensures.entries

-- the group comes, and its spans are noted

-- the pool was asked before which group would come, and is as it was
adopts_here : (g : _) (c : goal.After-self-2-1 g) → Adopts (record c.self.inside { shards = c.reach.new.shards }).pool c.index_mut-shard.result.now c.in-Ok-adopt.head c.adopt.new.self c.adopt.new.shard
adopts_here g c = subst (λ (pool : PoolState). Adopts pool c.index_mut-shard.result.now c.in-Ok-adopt.head c.adopt.new.self c.adopt.new.shard) c.adoptable.ensures.same c.in-Ok-adopt.ensures.ok

pub note-requires-clause-room : goal.note-requires-clause-room
note-requires-clause-room g c =
    HasAtMost-Adopts (record c.self.inside { shards = c.reach.new.shards }).pool (IsKept-unchanged c.self.inside (record c.self.inside { shards = c.reach.new.shards }) c.self.invariant refl refl refl refl refl (c.in-Ok.ensures {u = tt}).same refl).sound.groups.pool c.index_mut-shard.result.now c.adopt.new.shard c.adopt.ensures.sound_shard
    c.spans_to_come.result c.reserve.new.self.room c.in_ok-reserve.ensures.room
    c.in-Ok-adoptable.head c.in-Ok-adopt.head c.adopt.new.self c.in-Ok-adoptable.ensures.lowest
    (subst (λ (pool : PoolState). Adopts pool c.index_mut-shard.result.now c.in-Ok-adopt.head c.adopt.new.self c.adopt.new.shard) c.adoptable.ensures.same c.in-Ok-adopt.ensures.ok)
    (subst (λ (pool : PoolState). CountsPaged pool c.in-Ok-adoptable.head c.spans_to_come.result) c.adoptable.ensures.same c.spans_to_come.ensures)

pub overflow_cast-number-2 : goal.overflow_cast-number-2
overflow_cast-number-2 g c =
    let made : Inside g.row.L.Denot = record c.self.inside { shards = c.reach.new.shards } in
    let kept : IsKept made = IsKept-unchanged c.self.inside made c.self.invariant refl refl refl refl refl (c.in-Ok.ensures {u = tt}).same refl in
    let few : c.args.number < MOST_SHARDS =
    omega (arith, (c.in-Ok.ensures {u = tt}).here, c.reach.new.shards.ok.0, made-few c.self.inside.limits c.reach.new.shards.items kept.sound.groups.count, kept.sound.groups.within.shards.1) in
    omega arith

read_shard : (g : _) (c : goal.After-self-2-1 g) → slice_get (shards_of (record c.self.inside { shards = c.reach.new.shards })) c.args.number ≡ Some c.index_mut-shard.result.now
read_shard g c = shard-read (record c.self.inside { shards = c.reach.new.shards }) c.args.number c.index_mut-shard.result.now (record { within = (c.in-Ok.ensures {u = tt}).here; value = c.index_mut-shard.ensures.value })

not_full : (g : _) (c : goal.After-self-2-1 g) → c.index_mut-shard.result.now.page_limit ≢ length c.index_mut-shard.result.now.groups
not_full g c full = let never = c.in-Ok-adopt.ensures.spent.1 full in cc

still_running : (g : _) (c : goal.After-self-2-1 g) → c.index_mut-shard.result.now.ended ≡ false
still_running g c = false_from_ne_true c.index_mut-shard.result.now.ended (λ e. let never = c.in-Ok-adopt.ensures.ended.1 (not_full g c, e) in cc)

adopted : (g : _) (c : goal.After-self-2-1 g)
    → IsSoundStep c.args.self.now (Adopt c.args.number) (Adopted c.in-Ok-adopt.head)
    (state_of (with_both_at (record c.self.inside { shards = c.reach.new.shards }) c.args.number c.adopt.new.shard c.adopt.new.self c.note.new.self))
adopted g c =
    at_same (λ old new. IsSoundStep old (Adopt c.args.number) (Adopted c.in-Ok-adopt.head) new) (state_of-unchanged c.self.inside (record c.self.inside { shards = c.reach.new.shards }) refl refl refl refl (c.in-Ok.ensures {u = tt}).same refl ∙ c.self.view_is)
    (state_of-with_both_at (record c.self.inside { shards = c.reach.new.shards }) c.args.number c.index_mut-shard.result.now c.adopt.new.shard c.adopt.new.self c.note.new.self (record { within = (c.in-Ok.ensures {u = tt}).here; value = c.index_mut-shard.ensures.value }))
    (IsSoundStep-Adopts (state_of (record c.self.inside { shards = c.reach.new.shards })) c.args.number c.in-Ok-adopt.head c.index_mut-shard.result.now c.adopt.new.shard c.adopt.new.self (IsKept-unchanged c.self.inside (record c.self.inside { shards = c.reach.new.shards }) c.self.invariant refl refl refl refl refl (c.in-Ok.ensures {u = tt}).same refl).sound
    (no_plan_if_adopted (record c.self.inside { shards = c.reach.new.shards }) (IsKept-unchanged c.self.inside (record c.self.inside { shards = c.reach.new.shards }) c.self.invariant refl refl refl refl refl (c.in-Ok.ensures {u = tt}).same refl).sound
    (λ told. let never = c.in-Ok-adoptable.ensures.plan_open.1 (not_full g c, still_running g c, not_doubled (state_of (record c.self.inside { shards = c.reach.new.shards })) (IsKept-unchanged c.self.inside (record c.self.inside { shards = c.reach.new.shards }) c.self.invariant refl refl refl refl refl (c.in-Ok.ensures {u = tt}).same refl).sound.groups c.args.number c.index_mut-shard.result.now (read_shard g c) (still_running g c), told) in cc))
    (read_shard g c) (still_running g c) (adopts_here g c) c.adopt.ensures.sound_shard c.adopt.ensures.sound)

pub invariant_of-self-2 : goal.invariant_of-self-2
invariant_of-self-2 g c =
    IsKept-noted (record c.self.inside { shards = c.reach.new.shards }) (IsKept-unchanged c.self.inside (record c.self.inside { shards = c.reach.new.shards }) c.self.invariant refl refl refl refl refl (c.in-Ok.ensures {u = tt}).same refl) c.args.number c.index_mut-shard.result.now (record { within = (c.in-Ok.ensures {u = tt}).here; value = c.index_mut-shard.ensures.value })
    c.adopt.new.shard c.adopt.new.self (record c.self.inside { shards = c.reach.new.shards }).plan c.note.new.self c.in-Ok-adopt.head 0
    (Comes-Adopts c.index_mut-shard.result.now c.adopt.new.shard (record c.self.inside { shards = c.reach.new.shards }).pool c.adopt.new.self c.in-Ok-adopt.head (adopts_here g c))
    (subst (λ entries. Notes entries c.note.new.self.entries c.adopt.new.shard.groups c.in-Ok-adopt.head 0 c.args.number) c.reserve.ensures.entries c.note.ensures) (adopted g c).kept

pub returns-clause-exact : goal.returns-clause-exact
returns-clause-exact g c = (adopted g c).exact

pub returns-clause-same : goal.returns-clause-same
returns-clause-same g c = (adopted g c).plain

pub returns-clause-sound : goal.returns-clause-sound
returns-clause-sound g c = (adopted g c).kept

-- the shard is not made

pub invariant_of-self : goal.invariant_of-self
invariant_of-self g c =
    IsKept-unchanged c.self.inside (record c.self.inside { shards = c.reach.new.shards }) c.self.invariant refl refl refl refl refl (c.in-Err.ensures {u = tt}).same refl

pub no_adopter-requires-clause-unused : goal.no_adopter-requires-clause-unused
no_adopter-requires-clause-unused g c =
    let told = c.in-Err.ensures {u = tt} in
    subst (λ (s : CoreState). IsUnused s c.args.number) (sym (state_of-unchanged c.self.inside (record c.self.inside { shards = c.reach.new.shards }) refl refl refl refl told.same refl))
    (IsUnused-unmade (state_of c.self.inside) c.self.inside.shards.items c.args.number refl (omega (arith, told.refused.0, c.self.inside.shards.ok.0)))

pub returns-in-Err-clause-exact : goal.returns-in-Err-clause-exact
returns-in-Err-clause-exact g c =
    let told = c.in-Err.ensures {u = tt} in
    subst (λ (s : CoreState). CoreStep s (Adopt c.args.number) (Refused c.no_adopter.result) (state_of (record c.self.inside { shards = c.reach.new.shards })))
    (state_of-unchanged c.self.inside (record c.self.inside { shards = c.reach.new.shards }) refl refl refl refl told.same refl ∙ c.self.view_is) c.no_adopter.ensures

pub returns-in-Err-clause-same : goal.returns-in-Err-clause-same
returns-in-Err-clause-same g c =
    ap shown (state_of-unchanged c.self.inside (record c.self.inside { shards = c.reach.new.shards }) refl refl refl refl (c.in-Err.ensures {u = tt}).same refl ∙ c.self.view_is)
