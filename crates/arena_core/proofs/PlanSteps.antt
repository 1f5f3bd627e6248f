-- Each call of a shard or of the pool as a step of the core, exactly, and of the plain map, whatever plan is open.
use Rattle.std.proofs.Common.{◌≡◌, ℕ, suc, ◌<◌, ◌≤◌, true, false, cond, List, [], ◌∷◌, inl, inr, refl, sym, ap, subst, ◌∙◌, arith, Option, Some, None, set, slice_get, is_some, length, MatchOption}
use Rattle.std.proofs.lemmas.Option.{none-some}
use Rattle.span.specs.declared.id.SpanId.{SpanId}
use Rattle.span.specs.declared.key.Key.{Key}
use Rattle.span.specs.Ids.{same_span}
use Rattle.span.specs.Classes.{class_of}
use Rattle.groups.specs.Pages.{put_group}
use Rattle.span.specs.Log.{Value}
use Rattle.span.specs.PlainMap.{may_set, with_put as with_key, with_value, without, has_as_many}
use Rattle.span.proofs.Ids.{same_id_from_test}
use Rattle.shard.specs.Calls.{Frees, Puts, Sets, new_group, was_freed, was_replaced}
use Rattle.shard.specs.Group.{GroupState}
use Rattle.groups.specs.Group.{with_span}
use Rattle.shard.specs.State.{ShardState}
use Rattle.shard.specs.Shown.{shown as shown_by}
use Rattle.shard.specs.Sound.{IsSound as IsSoundShard}
use Rattle.shard.specs.declared.shard.Freed.{Freed}
use Rattle.shard.specs.declared.shard.Freed.TheVariants as freed
use Rattle.shard.specs.declared.shard.replacing.Replaced.{Replaced}
use Rattle.shard.specs.declared.shard.replacing.Replaced.TheVariants as replaced
use Rattle.groups.proofs.Lists.{cases-insert, cases-set}
use Rattle.pool.specs.Calls.{Adopts, Frees as FreesPooled, HasClosed, Receives, Sets as SetsPooled}
use Rattle.pool.specs.Shown.{shown as shown_by_pool}
use Rattle.pool.specs.Sound.{IsSound as IsSoundPool}
use Rattle.pool.specs.State.{PoolState}
use Rattle.marks.specs.Plans.{AreClosedAsPlanned, is_planned, plans_onto, OpenPlan}
use Rattle.arena_core.specs.Plan.{IsOwned, IsUnderWay, HasSoundPlan}
use Rattle.arena_core.specs.Plain.{ErasedStep}
use Rattle.arena_core.specs.Sound.{HasSoundGroups, IsSound}
use Rattle.arena_core.specs.State.{CoreState, has_span, opened_by, opened_of, shown, with_pool, with_shard}
use Rattle.arena_core.specs.Step.{CoreStep}
use Rattle.arena_core.specs.declared.event.Event.{Event}
use Rattle.arena_core.specs.declared.event.Event.TheVariants.{Put, Set, Free, End, Retire, Trim, Adopt}
use Rattle.arena_core.specs.declared.reply.Refusal.TheVariants.{OutOfMemory}
use Rattle.arena_core.specs.declared.reply.Reply.{Reply}
use Rattle.arena_core.specs.declared.reply.Reply.TheVariants as reply
use Rattle.arena_core.proofs.Changes.{opened-somewhere, HasSoundGroups-moved, HasSoundGroups-with_pool, HasSoundGroups-with_shard, at_most_once, sum_all-moved}
use Rattle.arena_core.proofs.Lists.{each-set}
use Rattle.arena_core.proofs.PlanKept.{IsLess-same, IsFewer-with_span, IsUnderWay-kept, KeepsAllClosed, KeepsAllClosed-same, KeepsAllClosed-set, KeepsClosed-ChangesSpan, KeepsClosed-Puts, KeepsPooled, KeepsPooled-ChangesPooled, KeepsPooled-Receives, KeepsPooled-same, has_plan-Receives, plans_onto-pair}
use Rattle.arena_core.proofs.OneSpan.{ChangesPooled, ChangesPooled-Frees, ChangesPooled-Sets, ChangesSpan, ChangesSpan-Frees, ChangesSpan-Sets}
use Rattle.arena_core.proofs.Moves.{unclosed}
use Rattle.pool.specs.Retires.{HasRetired, Retires}
use Rattle.arena_core.proofs.Retired.{HasGone-Retires, IsMove-Retires}
use Rattle.arena_core.proofs.Trimmed.{AreClosedAsPlanned-trimmed, IsCall-trimmed, KeepsClosed-trimmed, all_trimmed}
use Rattle.shard.specs.Trims.{Trims, changed_from, trimmed}
use Rattle.arena_core.proofs.Spans.{times-parts, times_in-found, times_in-le, has_span-counted}
use Rattle.arena_core.proofs.Steps.{with_pool-same, with_shard-same, may_set-shard, pooled-somewhere, value-shard, has_span-head}
use Rattle.arena_core.proofs.Groups.{IsCall-ChangesSpan, IsCall-Puts, IsMove-Adopts, IsMove-Receives, IsPoolCall-ChangesPooled}
use Rattle.arena_core.proofs.Shown.{IsLocal-pool, IsLocal-shard, fresh-put, has_pooled, has_pooled-counted, shown-free, shown-put, shown-set, shown-unchanged, value-before}
use Rattle.std.proofs.option.Match.{None-if_not_some}
use Rattle.arena_core.proofs.Logged.{shown-same}
use Rattle.std.proofs.lemmas.Bool.{false_from_ne_true, or_from}

-- what the core keeps, its own step, and that of the plain map, if the plain map knows the event
pub record IsSoundStep (old : CoreState) (event : Event) (answer : Reply) (new : CoreState) : Type 0 where
  pub kept : IsSound new
  pub exact : CoreStep old event answer new
  pub plain : ErasedStep old.limits (shown old) event answer (shown new)

abbrev pub AreAllClosedAsPlanned : Option OpenPlan → List ShardState → Type 0
AreAllClosedAsPlanned plan shards = (number : ℕ) (shard : ShardState) → slice_get shards number ≡ Some shard → AreClosedAsPlanned plan shard.groups

pub AreAllClosedAsPlanned-set : (plan : Option OpenPlan) (shards : List ShardState) (number : ℕ) (after : ShardState) → AreAllClosedAsPlanned plan shards
    → AreClosedAsPlanned plan after.groups → AreAllClosedAsPlanned plan (set shards number after)
AreAllClosedAsPlanned-set plan shards number after all here = each-set (λ k shard. AreClosedAsPlanned plan shard.groups) shards number after here all

-- the group of a pair's owned head is closed
closed_if_planned : (core : CoreState) (plan : OpenPlan) → AreAllClosedAsPlanned (Some plan) core.shards
    → (k : ℕ) (pair : SpanId × SpanId) → slice_get plan.pairs k ≡ Some pair → (group : GroupState) → IsOwned core pair.1 group → group.closed ≡ true
closed_if_planned core plan all k pair at group is = all is.number is.shard is.shard_is is.index group is.head_of.here
    ∙ ap (plans_onto plan.pairs) is.head_of.head_is ∙ plans_onto-pair plan.pairs k pair at

-- where the plan stays and the groups that it names stay, all that holds of it holds still
pub HasSoundPlan-kept : (old new : CoreState) → HasSoundPlan old → new.plan ≡ old.plan → new.pool.has_plan ≡ old.pool.has_plan
    → KeepsPooled old.pool.groups new.pool.groups → KeepsAllClosed old.shards new.shards → AreAllClosedAsPlanned old.plan new.shards → HasSoundPlan new
HasSoundPlan-kept old new keeps plan_is told pooled owned closed = record {
  told = told ∙ keeps.told ∙ ap is_some (sym plan_is);
  closed = subst (λ plan. AreAllClosedAsPlanned plan new.shards) (sym plan_is) closed;
  under_way = subst (λ plan. MatchOption plan (Unit {0}) (IsUnderWay new)) (sym plan_is) (by_plan old.plan keeps.closed keeps.under_way);
}
  where
    by_plan : (plan : Option OpenPlan) → AreAllClosedAsPlanned plan old.shards → MatchOption plan (Unit {0}) (IsUnderWay old) → MatchOption plan (Unit {0}) (IsUnderWay new)
    by_plan None all under = tt
    by_plan (Some plan) all under = IsUnderWay-kept old new pooled owned plan (closed_if_planned old plan all) under

-- without a plan, no group is closed
pub HasSoundPlan-none : (new : CoreState) → new.plan ≡ None → new.pool.has_plan ≡ false → AreAllClosedAsPlanned None new.shards → HasSoundPlan new
HasSoundPlan-none new plan_is told closed = record {
  told = told ∙ ap is_some (sym plan_is);
  closed = subst (λ plan. AreAllClosedAsPlanned plan new.shards) (sym plan_is) closed;
  under_way = subst (λ plan. MatchOption plan (Unit {0}) (IsUnderWay new)) (sym plan_is) tt;
}

-- a span that no plan knows

pub plans_onto-none : (pairs : List (SpanId × SpanId)) (id : SpanId) → ((k : ℕ) (pair : SpanId × SpanId) → slice_get pairs k ≡ Some pair → pair.1 ≡ id → ⊥) → plans_onto pairs id ≡ false
plans_onto-none [] id never = refl
plans_onto-none (pair ∷ pairs) id never = or_from (same_span pair.1 id) (plans_onto pairs id)
    (false_from_ne_true (same_span pair.1 id) (λ e. never 0 pair refl (same_id_from_test pair.1 id e))) (plans_onto-none pairs id (λ k other at. never (suc k) other at))

-- an owned group's span was opened
opened-IsOwned : (core : CoreState) → IsSound core → (head : SpanId) (group : GroupState) → IsOwned core head group → head.serial < opened_by core.shards head.shard
opened-IsOwned core sound head group is =
    let has = has_span-head core sound.groups head group is in
    opened-somewhere core sound.groups head (omega (arith, times_in-found head is.shard has, times_in-le head core.shards is.number is.shard is.shard_is, times-parts head core))

unplanned-next : (core : CoreState) → IsSound core → (id : SpanId) → opened_by core.shards id.shard ≤ id.serial → is_planned core.plan id ≡ false
unplanned-next core sound id past = by_plan core.plan refl sound.plan.under_way
  where
    by_plan : (plan : Option OpenPlan) → core.plan ≡ plan → MatchOption plan (Unit {0}) (IsUnderWay core) → is_planned plan id ≡ false
    by_plan None e under = refl
    by_plan (Some plan) e under = plans_onto-none plan.pairs id (λ k pair at same.
        let (group, is) = under.stands k pair at in
        let opened = opened-IsOwned core sound pair.1 group is in
        let here : id.serial < opened_by core.shards id.shard = subst (λ (i : SpanId). i.serial < opened_by core.shards i.shard) same opened in
        omega arith)

-- puts

AreClosedAsPlanned-Puts : (plan : Option OpenPlan) (before after : ShardState) (value : Value) (key : Key) (at : ℕ)
    → Puts before (class_of value) value key at after → (before.opened ≤ key.span.serial → key.span.shard ≡ before.number → is_planned plan key.span ≡ false)
    → AreClosedAsPlanned plan before.groups → AreClosedAsPlanned plan after.groups
AreClosedAsPlanned-Puts plan before after value key at (running, inl (index, group, room, span_is, generation_is, at_is, after_is)) fresh all other now here =
    elim (cases-set before.groups index (put_group group (class_of value) key.slot value) other now (ap (λ gs. slice_get gs other) (sym (ap (λ (s : ShardState). s.groups) after_is)) ∙ here)) [
      | inl new ↦ subst (λ (g : GroupState). g.closed ≡ is_planned plan g.head.id) new.1 (all index group room.here)
      | inr old ↦ all other now old.1
    ]
AreClosedAsPlanned-Puts plan before after value key at (running, inr (full, pages, spans, (shard_is, serial_is, slot_is, generation_is, at_is, (index, place, after_is)))) fresh all other now here =
    elim (cases-insert before.groups index (new_group key.span (class_of value) before.gens value) place.within other now (ap (λ (s : ShardState). slice_get s.groups other) (sym after_is) ∙ here)) [
      | inl low ↦ all other now low.1
      | inr (inl new) ↦ subst (λ (g : GroupState). g.closed ≡ is_planned plan g.head.id) new.1 (sym (fresh (omega (arith, serial_is)) shard_is))
      | inr (inr high) ↦ all high.0 now high.3
    ]

pub HasSoundPlan-Puts : (old : CoreState) → IsSound old → (number : ℕ) (value : Value) (key : Key) (at : ℕ) (before after : ShardState)
    → slice_get old.shards number ≡ Some before → Puts before (class_of value) value key at after → HasSoundPlan (with_shard old number after)
HasSoundPlan-Puts old sound number value key at before after here puts =
    HasSoundPlan-kept old (with_shard old number after) sound.plan refl refl (KeepsPooled-same old.pool.groups)
    (KeepsAllClosed-set old.shards number before after here (KeepsClosed-Puts before after value key at puts))
    (AreAllClosedAsPlanned-set old.plan old.shards number after sound.plan.closed (AreClosedAsPlanned-Puts old.plan before after value key at puts fresh (sound.plan.closed number before here)))
  where
    fresh : before.opened ≤ key.span.serial → key.span.shard ≡ before.number → is_planned old.plan key.span ≡ false
    fresh past shard_is =
        let opened : opened_by old.shards key.span.shard ≡ before.opened = ap (opened_by old.shards) (shard_is ∙ (sound.groups.shards number before here).number_is) ∙ ap opened_of here in
        unplanned-next old sound key.span (omega arith)

-- a span that changes

AreClosedAsPlanned-ChangesSpan : (plan : Option OpenPlan) (before after : ShardState) → ChangesSpan before after → AreClosedAsPlanned plan before.groups → AreClosedAsPlanned plan after.groups
AreClosedAsPlanned-ChangesSpan plan before after changes all other now there =
    elim (cases-set before.groups changes.index (record (with_span changes.group changes.place changes.now) { page = changes.page }) other now
    (ap (λ gs. slice_get gs other) (sym (ap (λ (s : ShardState). s.groups) changes.after_is)) ∙ there)) [
      | inl new ↦ let fewer = IsFewer-with_span changes.group changes.place changes.span changes.now changes.span_is changes.same in
          subst (λ (g : GroupState). g.closed ≡ is_planned plan g.head.id) new.1 (fewer.closed_is ∙ all changes.index changes.group changes.group_is ∙ ap (is_planned plan) (sym fewer.head_is))
      | inr old ↦ all other now old.1
    ]

pub HasSoundPlan-ChangesSpan : (old : CoreState) → IsSound old → (number : ℕ) (before after : ShardState) → slice_get old.shards number ≡ Some before
    → ChangesSpan before after → HasSoundPlan (with_shard old number after)
HasSoundPlan-ChangesSpan old sound number before after here changes =
    HasSoundPlan-kept old (with_shard old number after) sound.plan refl refl (KeepsPooled-same old.pool.groups)
    (KeepsAllClosed-set old.shards number before after here (KeepsClosed-ChangesSpan before after changes))
    (AreAllClosedAsPlanned-set old.plan old.shards number after sound.plan.closed (AreClosedAsPlanned-ChangesSpan old.plan before after changes (sound.plan.closed number before here)))

pub HasSoundPlan-ChangesPooled : (old : CoreState) → IsSound old → (pool : PoolState) → ChangesPooled old.pool pool → HasSoundPlan (with_pool old pool)
HasSoundPlan-ChangesPooled old sound pool changes =
    HasSoundPlan-kept old (with_pool old pool) sound.plan refl changes.has_plan_is (KeepsPooled-ChangesPooled old.pool pool changes) (KeepsAllClosed-same old.shards) sound.plan.closed

-- ends

pub HasSoundPlan-Receives : (old : CoreState) → IsSound old → (number : ℕ) (before after : ShardState) (pool : PoolState)
    → slice_get old.shards number ≡ Some before → ((index : ℕ) (group : GroupState) → slice_get before.groups index ≡ Some group → group.closed ≡ false)
    → Receives old.pool before pool after → HasSoundPlan (with_pool (with_shard old number after) pool)
HasSoundPlan-Receives old sound number before after pool here unclosed receives =
    HasSoundPlan-kept old (with_pool (with_shard old number after) pool) sound.plan refl (has_plan-Receives old.pool pool before after receives)
    (KeepsPooled-Receives old.pool pool before after receives)
    (KeepsAllClosed-set old.shards number before after here (λ index group at closed. absurd (let both : true ≡ false = sym closed ∙ unclosed index group at in cc)))
    (AreAllClosedAsPlanned-set old.plan old.shards number after sound.plan.closed
    (λ index group at. absurd (none-some group (ap (λ (s : ShardState). slice_get s.groups index) (sym receives.after) ∙ at))))

pub HasSoundPlan-Retires : (old : CoreState) → IsSound old → (number most count : ℕ) (before after : ShardState) (pool : PoolState)
    → slice_get old.shards number ≡ Some before → ((index : ℕ) (group : GroupState) → slice_get before.groups index ≡ Some group → group.closed ≡ false)
    → Retires old.pool before most count pool after → HasSoundPlan (with_pool (with_shard old number after) pool)
HasSoundPlan-Retires old sound number most count before after pool here unclosed retires =
    let gone = HasGone-Retires old.pool before most count pool after retires in
    HasSoundPlan-kept old (with_pool (with_shard old number after) pool) sound.plan refl gone.has_plan_is
    (λ index group at. let (place, there) = gone.still index group at in (place, group, there, IsLess-same group))
    (KeepsAllClosed-set old.shards number before after here (λ index group at closed. absurd (let both : true ≡ false = sym closed ∙ unclosed index group at in cc)))
    (AreAllClosedAsPlanned-set old.plan old.shards number after sound.plan.closed (λ index group at. let (was, there) = gone.part index group at in
    sound.plan.closed number before here was group there))

-- adoptions

pub HasSoundPlan-Adopts : (old : CoreState) → IsSound old → old.plan ≡ None → (number : ℕ) (head : SpanId) (before after : ShardState) (pool : PoolState)
    → slice_get old.shards number ≡ Some before → Adopts old.pool before head pool after → HasSoundPlan (with_pool (with_shard old number after) pool)
HasSoundPlan-Adopts old sound no_plan number head before after pool here adopts =
    HasSoundPlan-none (with_pool (with_shard old number after) pool) no_plan told (AreAllClosedAsPlanned-set None old.shards number after all adopted)
  where
    told : pool.has_plan ≡ false
    told = let (index, group, head_of, whole_is, after_is) = adopts.lifts in ap (λ (p : PoolState). p.has_plan) after_is ∙ sound.plan.told ∙ ap is_some no_plan

    all : AreAllClosedAsPlanned None old.shards
    all = subst (λ plan. AreAllClosedAsPlanned plan old.shards) no_plan sound.plan.closed

    adopted : AreClosedAsPlanned None after.groups
    adopted index group at =
        elim (cases-insert before.groups adopts.takes_in.index _ adopts.takes_in.place.within index group (ap (λ (s : ShardState). slice_get s.groups index) (sym adopts.takes_in.after) ∙ at)) [
          | inl low ↦ all number before here index group low.1
          | inr (inl new) ↦ ap (λ (g : GroupState). g.closed) (sym new.1)
          | inr (inr high) ↦ all number before here high.0 group high.3
        ]

-- the steps, with the plan

pub IsSoundStep-Puts : (old : CoreState) (number : ℕ) (value : Value) (key : Key) (at : ℕ) (before after : ShardState) → IsSound old
    → slice_get old.shards number ≡ Some before → Puts before (class_of value) value key at after
    → (shown_by before).is_issued key ≡ false → shown_by after ≡ with_key (shown_by before) key value → IsSoundShard after
    → IsSoundStep old (Put number value) (reply.Issued key) (with_shard old number after)
IsSoundStep-Puts old number value key at before after sound here puts fresh plain sound_after =
    let new = with_shard old number after in
    let groups = HasSoundGroups-with_shard old sound.groups number before after here (IsCall-Puts before after value key at puts) sound_after in
    let local = IsLocal-shard old new (at_most_once old sound.groups) (at_most_once new groups) number before after here refl in
    record {
      kept = record { groups = groups; plan = HasSoundPlan-Puts old sound number value key at before after here puts; rings = sound.rings };
      exact = record { before = before; after = after; at = at; here = here; puts = puts; rest = refl };
      plain = (
        fresh-put old new (shown_by before) (shown_by after) (λ id. has_span id after) local key value plain fresh,
        shown-put old new (shown_by before) (shown_by after) (λ id. has_span id after) local key value plain,
      );
    }

-- a set that is refused
pub IsSoundStep-set_refused : (old : CoreState) (key : Key) (value : Value) → IsSound old → may_set (shown old) key value ≡ true → IsSoundStep old (Set key value) (reply.Refused OutOfMemory) old
IsSoundStep-set_refused old key value sound may = record { kept = sound; exact = (may, refl); plain = (may, refl) }

-- a key that is not live, or whose object has another class, is not set
IsSoundStep-unset : (old new : CoreState) (key : Key) (value : Value) → IsSound old → may_set (shown old) key value ≡ false → new ≡ old
    → IsSoundStep old (Set key value) (reply.Replaced false) new
IsSoundStep-unset old new key value sound never same =
    subst (IsSoundStep old (Set key value) (reply.Replaced false)) (sym same) (record { kept = sound; exact = (never, refl); plain = (never, refl) })

pub IsSoundStep-Sets : (old : CoreState) (key : Key) (value : Value) (number : ℕ) (before after : ShardState) (answer : Replaced) → IsSound old
    → slice_get old.shards number ≡ Some before → has_span key.span before ≡ true → Sets before key value answer after
    → was_replaced answer ≡ may_set (shown_by before) key value → shown_by after ≡ cond (was_replaced answer) (with_value (shown_by before) key value) (shown_by before) → IsSoundShard after
    → IsSoundStep old (Set key value) (reply.Replaced (was_replaced answer)) (with_shard old number after)
IsSoundStep-Sets old key value number before after (replaced.Yes at) sound here has sets found plain sound_after =
    let new = with_shard old number after in
    let changes = ChangesSpan-Sets before after key value at sets in
    let groups = HasSoundGroups-with_shard old sound.groups number before after here (IsCall-ChangesSpan before after changes) sound_after in
    let local = IsLocal-shard old new (at_most_once old sound.groups) (at_most_once new groups) number before after here refl in
    record {
      kept = record { groups = groups; plan = HasSoundPlan-ChangesSpan old sound number before after here changes; rings = sound.rings };
      exact = inl (record { number = number; before = before; after = after; at = at; here = here; sets = sets; rest = refl });
      plain = (
        may_set-shard old sound.groups key value number before here has ∙ sym found,
        shown-set old new (shown_by before) (shown_by after) (λ id. has_span id after) local key value plain,
      );
    }
IsSoundStep-Sets old key value number before after (replaced.No at) sound here has (index, place, group, span, there, unfit, at_is, same) found plain sound_after =
    IsSoundStep-unset old _ key value sound (may_set-shard old sound.groups key value number before here has ∙ sym found) (with_shard-same old number before after here same)
IsSoundStep-Sets old key value number before after replaced.NotHere sound here has sets found plain sound_after =
    IsSoundStep-unset old _ key value sound (may_set-shard old sound.groups key value number before here has ∙ sym found) (with_shard-same old number before after here sets.1)

-- a set that the pool answers, where the core shows under the key what the pool shows
pub IsSoundStep-SetsPooled : (old : CoreState) (key : Key) (value : Value) (pool : PoolState) (answer : Replaced) → IsSound old
    → (shown old).value_of key ≡ (shown_by_pool old.pool).value_of key → SetsPooled old.pool key value answer pool
    → was_replaced answer ≡ may_set (shown_by_pool old.pool) key value
    → shown_by_pool pool ≡ cond (was_replaced answer) (with_value (shown_by_pool old.pool) key value) (shown_by_pool old.pool) → IsSoundPool pool
    → IsSoundStep old (Set key value) (reply.Replaced (was_replaced answer)) (with_pool old pool)
IsSoundStep-SetsPooled old key value pool (replaced.Yes at) sound pooled sets found plain sound_pool =
    let new = with_pool old pool in
    let changes = ChangesPooled-Sets old.pool pool key value at sound.groups.pool sets in
    let groups = HasSoundGroups-with_pool old sound.groups pool (IsPoolCall-ChangesPooled old.pool pool changes) sound_pool in
    let local = IsLocal-pool old new (at_most_once old sound.groups) (at_most_once new groups) pool refl in
    record {
      kept = record { groups = groups; plan = HasSoundPlan-ChangesPooled old sound pool changes; rings = sound.rings };
      exact = inr (record { after = pool; at = at; sets = sets; rest = refl });
      plain = (
        ap (has_as_many value) pooled ∙ sym found,
        shown-set old new (shown_by_pool old.pool) (shown_by_pool pool) (λ id. has_pooled id pool) local key value plain,
      );
    }
IsSoundStep-SetsPooled old key value pool (replaced.No at) sound pooled (index, place, group, span, there, unfit, at_is, same) found plain sound_pool =
    IsSoundStep-unset old _ key value sound (ap (has_as_many value) pooled ∙ sym found) (with_pool-same old pool same)
IsSoundStep-SetsPooled old key value pool replaced.NotHere sound pooled sets found plain sound_pool =
    IsSoundStep-unset old _ key value sound (ap (has_as_many value) pooled ∙ sym found) (with_pool-same old pool sets.1)

-- a key that is not live is not freed
IsSoundStep-dead : (old new : CoreState) (key : Key) → IsSound old → (shown old).value_of key ≡ None → new ≡ old → IsSoundStep old (Free key) (reply.Freed false) new
IsSoundStep-dead old new key sound none same =
    subst (IsSoundStep old (Free key) (reply.Freed false)) (sym same) (record { kept = sound; exact = (none, refl); plain = (none, refl) })

pub IsSoundStep-Frees : (old : CoreState) (key : Key) (number : ℕ) (before after : ShardState) (answer : Freed) → IsSound old
    → slice_get old.shards number ≡ Some before → has_span key.span before ≡ true → Frees before key answer after
    → was_freed answer ≡ is_some ((shown_by before).value_of key) → shown_by after ≡ cond (was_freed answer) (without (shown_by before) key) (shown_by before) → IsSoundShard after
    → IsSoundStep old (Free key) (reply.Freed (was_freed answer)) (with_shard old number after)
IsSoundStep-Frees old key number before after (freed.Yes at) sound here has frees found plain sound_after =
    let new = with_shard old number after in
    let changes = ChangesSpan-Frees before after key at frees in
    let call = IsCall-ChangesSpan before after changes in
    let groups = HasSoundGroups-with_shard old sound.groups number before after here call sound_after in
    let local = IsLocal-shard old new (at_most_once old sound.groups) (at_most_once new groups) number before after here refl in
    let still : has_span key.span after ≡ true = has_span-counted key.span after (omega (arith, times_in-found key.span before has, call.none_lost key.span)) in
    record {
      kept = record { groups = groups; plan = HasSoundPlan-ChangesSpan old sound number before after here changes; rings = sound.rings };
      exact = inl (record { number = number; before = before; after = after; at = at; here = here; frees = frees; rest = refl });
      plain = (
        ap is_some (value-before old new (shown_by before) (shown_by after) (λ id. has_span id after) local key still plain) ∙ sym found,
        shown-free old new (shown_by before) (shown_by after) (λ id. has_span id after) local key still plain,
      );
    }
IsSoundStep-Frees old key number before after (freed.No at) sound here has (index, place, group, span, there, dead, at_is, same) found plain sound_after =
    IsSoundStep-dead old _ key sound (value-shard old sound.groups key number before here has ∙ None-if_not_some _ (sym found)) (with_shard-same old number before after here same)
IsSoundStep-Frees old key number before after freed.NotHere sound here has frees found plain sound_after =
    IsSoundStep-dead old _ key sound (value-shard old sound.groups key number before here has ∙ None-if_not_some _ (sym found)) (with_shard-same old number before after here frees.1)

-- a free that the pool answers, where the core shows under the key what the pool shows
pub IsSoundStep-FreesPooled : (old : CoreState) (key : Key) (pool : PoolState) (answer : Freed) → IsSound old
    → (shown old).value_of key ≡ (shown_by_pool old.pool).value_of key → FreesPooled old.pool key answer pool
    → was_freed answer ≡ is_some ((shown_by_pool old.pool).value_of key)
    → shown_by_pool pool ≡ cond (was_freed answer) (without (shown_by_pool old.pool) key) (shown_by_pool old.pool) → IsSoundPool pool
    → IsSoundStep old (Free key) (reply.Freed (was_freed answer)) (with_pool old pool)
IsSoundStep-FreesPooled old key pool (freed.Yes at) sound pooled frees found plain sound_pool =
    let new = with_pool old pool in
    let (index, place, group, span, there, holds, at_is, leaves) = frees in
    let some = pooled-somewhere old.pool key.span (λ away. away index group there.group_is place (span, there.span_is, there.id_is)) in
    let changes = ChangesPooled-Frees old.pool pool key at sound.groups.pool frees in
    let call = IsPoolCall-ChangesPooled old.pool pool changes in
    let groups = HasSoundGroups-with_pool old sound.groups pool call sound_pool in
    let local = IsLocal-pool old new (at_most_once old sound.groups) (at_most_once new groups) pool refl in
    let still : has_pooled key.span pool ≡ true = has_pooled-counted key.span pool (omega (arith, call.spans key.span)) in
    record {
      kept = record { groups = groups; plan = HasSoundPlan-ChangesPooled old sound pool changes; rings = sound.rings };
      exact = inr (record { after = pool; at = at; frees = frees; rest = refl });
      plain = (
        ap is_some (value-before old new (shown_by_pool old.pool) (shown_by_pool pool) (λ id. has_pooled id pool) local key still plain) ∙ sym found,
        shown-free old new (shown_by_pool old.pool) (shown_by_pool pool) (λ id. has_pooled id pool) local key still plain,
      );
    }
IsSoundStep-FreesPooled old key pool (freed.No at) sound pooled (index, place, group, span, there, dead, at_is, same) found plain sound_pool =
    IsSoundStep-dead old _ key sound (pooled ∙ None-if_not_some _ (sym found)) (with_pool-same old pool same)
IsSoundStep-FreesPooled old key pool freed.NotHere sound pooled frees found plain sound_pool =
    IsSoundStep-dead old _ key sound (pooled ∙ None-if_not_some _ (sym found)) (with_pool-same old pool frees.1)

pub IsSoundStep-Receives : (old : CoreState) (number : ℕ) (before after : ShardState) (pool : PoolState) → IsSound old → slice_get old.shards number ≡ Some before → (HasClosed before.groups → ⊥)
    → Receives old.pool before pool after → IsSoundShard after → IsSoundPool pool
    → IsSoundStep old (End number) reply.ShardEnded (with_pool (with_shard old number after) pool)
IsSoundStep-Receives old number before after pool sound here none_closed receives sound_after sound_pool =
    let move = IsMove-Receives before after old.pool pool receives in
    let groups = HasSoundGroups-moved old sound.groups number before after pool here move sound_after sound_pool in
    record {
      kept = record { groups = groups; plan = HasSoundPlan-Receives old sound number before after pool here (unclosed before.groups none_closed) receives; rings = sound.rings };
      exact = record { before = before; after = after; pool = pool; here = here; unclosed = none_closed; receives = receives; rest = refl };
      plain = shown-same old (with_pool (with_shard old number after) pool) sound.groups groups refl (sum_all-moved old sound.groups number before after pool here move);
    }

pub IsSoundStep-Retires : (old : CoreState) (number most count : ℕ) (before after : ShardState) (pool : PoolState) → IsSound old
    → slice_get old.shards number ≡ Some before → (HasClosed before.groups → ⊥)
    → Retires old.pool before most count pool after → HasRetired old.pool before count pool after → IsSoundShard after → IsSoundPool pool
    → IsSoundStep old (Retire number most) (reply.Retired count) (with_pool (with_shard old number after) pool)
IsSoundStep-Retires old number most count before after pool sound here none_closed retires whole sound_after sound_pool =
    let move = IsMove-Retires before after old.pool pool most count retires in
    let groups = HasSoundGroups-moved old sound.groups number before after pool here move sound_after sound_pool in
    record {
      kept = record {
        groups = groups;
        plan = HasSoundPlan-Retires old sound number most count before after pool here (unclosed before.groups none_closed) retires;
        rings = sound.rings;
      };
      exact = record { before = before; after = after; pool = pool; here = here; unclosed = none_closed; retires = retires; whole = whole; rest = refl };
      plain = shown-same old (with_pool (with_shard old number after) pool) sound.groups groups refl (sum_all-moved old sound.groups number before after pool here move);
    }

-- a shard of which some groups were trimmed
module _ (old : CoreState) (number from count : ℕ) (before after : ShardState) (sound : IsSound old) (here : slice_get old.shards number ≡ Some before)
    (is : after ≡ record before { groups = changed_from trimmed from count before.groups }) (sound_after : IsSoundShard after) where
  trimmed_groups : HasSoundGroups (with_shard old number after)
  trimmed_groups = HasSoundGroups-with_shard old sound.groups number before after here (IsCall-trimmed before after from count is) sound_after

  pub IsSound-trimmed : IsSound (with_shard old number after)
  IsSound-trimmed = record {
    groups = trimmed_groups;
    plan = HasSoundPlan-kept old (with_shard old number after) sound.plan refl refl (KeepsPooled-same old.pool.groups)
        (KeepsAllClosed-set old.shards number before after here (KeepsClosed-trimmed before after from count is))
        (AreAllClosedAsPlanned-set old.plan old.shards number after sound.plan.closed (AreClosedAsPlanned-trimmed before after from count is old.plan (sound.plan.closed number before here)));
    rings = sound.rings;
  }

  pub shown-trimmed : shown_by after ≡ shown_by before → shown (with_shard old number after) ≡ shown old
  shown-trimmed plain =
      let new = with_shard old number after in
      let local = IsLocal-shard old new (at_most_once old sound.groups) (at_most_once new trimmed_groups) number before after here refl in
      shown-unchanged old new (shown_by before) (shown_by after) (λ id. has_span id after) local plain

pub IsSoundStep-Trims : (old : CoreState) (number count : ℕ) (before after : ShardState) → IsSound old → slice_get old.shards number ≡ Some before
    → Trims before count after → shown_by after ≡ shown_by before → IsSoundShard after
    → IsSoundStep old (Trim number) (reply.Trimmed count) (with_shard old number after)
IsSoundStep-Trims old number count before after sound here trims plain sound_after =
    let is = all_trimmed before after count trims in
    record {
      kept = IsSound-trimmed old number 0 (length before.groups) before after sound here is sound_after;
      exact = record { before = before; after = after; here = here; trims = trims; rest = refl };
      plain = shown-trimmed old number 0 (length before.groups) before after sound here is sound_after plain;
    }

pub IsSoundStep-Adopts : (old : CoreState) (number : ℕ) (head : SpanId) (before after : ShardState) (pool : PoolState) → IsSound old → old.plan ≡ None
    → slice_get old.shards number ≡ Some before → before.ended ≡ false → Adopts old.pool before head pool after → IsSoundShard after → IsSoundPool pool
    → IsSoundStep old (Adopt number) (reply.Adopted head) (with_pool (with_shard old number after) pool)
IsSoundStep-Adopts old number head before after pool sound no_plan here running adopts sound_after sound_pool =
    let move = IsMove-Adopts before after old.pool pool head running adopts in
    let groups = HasSoundGroups-moved old sound.groups number before after pool here move sound_after sound_pool in
    record {
      kept = record { groups = groups; plan = HasSoundPlan-Adopts old sound no_plan number head before after pool here adopts; rings = sound.rings };
      exact = record { before = before; after = after; pool = pool; here = here; running = running; no_plan = no_plan; adopts = adopts; rest = refl };
      plain = shown-same old (with_pool (with_shard old number after) pool) sound.groups groups refl (sum_all-moved old sound.groups number before after pool here move);
    }
