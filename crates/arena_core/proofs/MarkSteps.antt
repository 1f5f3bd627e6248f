-- What a mark and a close leave: a sound core, which shows the same map.
use Rattle.std.proofs.Common.{◌≡◌, ℕ, ◌<◌, ◌&&◌, is_some, Bool, true, false, refl, sym, ap, subst, ◌∙◌, arith, Option, Some, None, slice_get, length, map, get_or, option_map, true≢false}
use Rattle.std.proofs.lemmas.Option.{slice_get_within}
use Rattle.std.specs.Vec.{with_item}
use Rattle.span.specs.declared.id.SpanId.{SpanId}
use Rattle.span.specs.declared.limits.TheConstants.{MOST_SHARDS}
use Rattle.shard.specs.Closes.{opened_group}
use Rattle.shard.specs.Group.{GroupState}
use Rattle.groups.specs.Group.{IsHeadOf, occupied}
use Rattle.shard.proofs.HeadsHere.{same_group}
use Rattle.shard.specs.Sound.{IsSound as IsSoundShard}
use Rattle.shard.specs.State.{ShardState}
use Rattle.groups.proofs.Lists.{same_some}
use Rattle.pool.specs.Sound.{IsSound as IsSoundPool}
use Rattle.pool.specs.State.{PoolState}
use Rattle.fold.specs.Folds.{Steps}
use Rattle.fold.specs.declared.step.Step.{Step as Outcome}
use Rattle.certificate.specs.declared.certificate.Certificate.{Certificate}
use Rattle.marks.specs.Closings.{AreOpen, closed_as_planned, closed_onto, reopened}
use Rattle.arena_core.specs.Kept.{shards_of, state_of}
use Rattle.arena_core.specs.Made.{all_shards, new_shard_of}
use Rattle.marks.specs.Seen.{IsLargest}
use Rattle.marks.specs.declared.sight.Sight.TheVariants.{Sparsest}
use Rattle.marks.specs.Plans.{next_pair, plans_onto, with_next_done, OpenPlan}
use Rattle.arena_core.specs.Moved.{StandsIn, WhereaboutsState}
use Rattle.arena_core.specs.Plan.{IsNext, IsOwned, IsUnderWay}
use Rattle.arena_core.specs.Sound.{HasSoundGroups, IsSound}
use Rattle.arena_core.specs.State.{CoreState, has_span, shown, with_plan, with_pool, with_shard}
use Rattle.arena_core.specs.Step.{with_plan_closed, with_plan_opened}
use Rattle.arena_core.specs.declared.event.Event.TheVariants.{Step}
use Rattle.arena_core.specs.declared.machine.Core.TheInside.{Inside}
use Rattle.arena_core.specs.declared.reply.Reply.TheVariants.{Stepped}
use Rattle.arena_core.proofs.Fields.{IsRead, made-read, shard-read, core_of}
use Rattle.arena_core.proofs.Made.{completed-map, made-set, standing-made}
use Rattle.arena_core.proofs.Flagged.{HasSoundGroups-flagged, shown-flagged, with_all_flags}
use Rattle.marks.proofs.Flagged.{map_back}
use Rattle.marks.proofs.Lists.{slice_get-map_at}
use Rattle.arena_core.proofs.PlanMarks.{IsUnderWay-marked}
use Rattle.arena_core.proofs.Changes.{HasSoundGroups-retold}
use Rattle.arena_core.proofs.PlanSteps.{AreAllClosedAsPlanned, IsSoundStep, HasSoundPlan-none, plans_onto-none}
use Rattle.arena_core.proofs.Spans.{shard_with-here}
use Rattle.arena_core.proofs.Stepping.{IsSoundStep-Steps, waits}
use Rattle.arena_core.proofs.FieldSteps.{state_of-both_same, at_same}
use Rattle.arena_core.proofs.Steps.{has_span-head, owned-once}

-- no plan is open, so no group is closed
pub AreOpen-none : (core : CoreState) → IsSound core → core.plan ≡ None → AreOpen core.shards
AreOpen-none core sound none = subst (λ plan. AreAllClosedAsPlanned plan core.shards) none sound.plan.closed

-- one group at most has a head
one_owned : (core : CoreState) → HasSoundGroups core → (head : SpanId) (a b : GroupState) → IsOwned core head a → IsOwned core head b → a ≡ b
one_owned core sound head a b is_a is_b =
    let sound_b = (sound.shards is_b.number is_b.shard is_b.shard_is).sound in
    let found_a = shard_with-here head core.shards is_a.number is_a.shard is_a.shard_is (has_span-head core sound head a is_a) (owned-once core sound head) in
    let found_b = shard_with-here head core.shards is_b.number is_b.shard is_b.shard_is (has_span-head core sound head b is_b) (owned-once core sound head) in
    let same : is_a.shard ≡ is_b.shard = same_some (sym found_a ∙ found_b) in
    same_group is_b.shard.groups sound_b.ascending head is_a.index is_b.index a b (subst (λ (s : ShardState). IsHeadOf s.groups head is_a.index a) same is_a.head_of) is_b.head_of

-- a mark

module _ (old : CoreState) (sound : IsSound old) (found : Certificate) (largest : IsLargest Sparsest old.pool old.shards found) where
  abbrev pub marked : CoreState
  marked = with_plan_opened old found.plan

  abbrev flag : GroupState → Bool
  flag group = is_some group.page && plans_onto found.plan group.head.id

  marked_groups : HasSoundGroups marked
  marked_groups = HasSoundGroups-retold (with_all_flags flag old) true (Some (record { pairs = found.plan; done = 0 })) old.rings (HasSoundGroups-flagged flag old sound.groups)

  owned_still : (head : SpanId) (group : GroupState) → IsOwned old head group
      → (now : GroupState) × IsOwned marked head now × (now.head.class ≡ group.head.class) × (occupied now ≡ occupied group) × (now.page ≡ group.page)
  owned_still head group is = (
    closed_as_planned found.plan group,
    record {
      number = is.number;
      shard = closed_onto found.plan is.shard;
      index = is.index;
      shard_is = slice_get-map_at (closed_onto found.plan) old.shards is.number is.shard is.shard_is;
      head_of = record { here = slice_get-map_at (closed_as_planned found.plan) is.shard.groups is.index group is.head_of.here; head_is = is.head_of.head_is };
    },
    refl,
    refl,
    refl,
  )

  under_way : IsUnderWay marked (record { pairs = found.plan; done = 0 })
  under_way =
      IsUnderWay-marked old marked found.snapshot found.plan largest.seen largest.shown.best.plan
      (λ head group is. record { index = is.index; head_of = is.head_of }) owned_still

  -- a group with no page is not planned, since the group of that head has one
  paged_if_planned : (number : ℕ) (shard : ShardState) → slice_get marked.shards number ≡ Some shard → (index : ℕ) (before group : GroupState)
      → slice_get shard.groups index ≡ Some group → closed_as_planned found.plan before ≡ group
      → (is_some before.page && plans_onto found.plan before.head.id) ≡ plans_onto found.plan before.head.id
  paged_if_planned number shard here index before group at same = by_page (is_some before.page) refl
    where
      by_page : (b : Bool) → is_some before.page ≡ b → (b && plans_onto found.plan before.head.id) ≡ plans_onto found.plan before.head.id
      by_page true some = refl
      by_page false none = sym (plans_onto-none found.plan before.head.id (λ k pair at_k named.
          let waits = under_way.waiting k pair (omega arith) at_k in
          let mine : IsOwned marked pair.1 group = record {
            number = number;
            shard = shard;
            index = index;
            shard_is = here;
            head_of = record { here = at; head_is = ap (λ (g : GroupState). g.head.id) (sym same) ∙ sym named };
          } in
          let one : waits.owned ≡ group = one_owned marked marked_groups pair.1 waits.owned group waits.is_owned mine in
          true≢false (sym waits.paged ∙ ap (λ (g : GroupState). is_some g.page) (one ∙ sym same) ∙ none)))

  pub IsSound-marked : IsSound marked
  IsSound-marked = record {
    groups = marked_groups;
    plan = record {
      told = refl;
      closed = λ number shard here index group at.
          let (was, there, is) = map_back (closed_onto found.plan) old.shards number shard here in
          let (before, stood, same) = map_back (closed_as_planned found.plan) was.groups index group (subst (λ (s : ShardState). slice_get s.groups index ≡ Some group) (sym is) at) in
          subst (λ (g : GroupState). g.closed ≡ plans_onto found.plan g.head.id) same (paged_if_planned number shard here index before group at same);
      under_way = under_way;
    };
    rings = sound.rings;
  }

  pub shown-marked : shown marked ≡ shown old
  shown-marked = shown-flagged flag old sound.groups

-- a close

module _ (old : CoreState) (sound : IsSound old) where
  pub IsSound-closed : IsSound (with_plan_closed old)
  IsSound-closed = record {
    groups = HasSoundGroups-retold (with_all_flags (λ group. false) old) false None old.rings (HasSoundGroups-flagged (λ group. false) old sound.groups);
    plan = HasSoundPlan-none (with_plan_closed old) refl refl (λ number shard here index group at.
        let (was, there, is) = map_back reopened old.shards number shard here in
        let (before, stood, same) = map_back opened_group was.groups index group (subst (λ (s : ShardState). slice_get s.groups index ≡ Some group) (sym is) at) in
        subst (λ (g : GroupState). g.closed ≡ false) same refl);
    rings = sound.rings;
  }

  pub shown-closed : shown (with_plan_closed old) ≡ shown old
  shown-closed = shown-flagged (λ group. false) old sound.groups

-- the fields

pub state_of-mapped : {L : Type 0} (c now : Inside L) (change : ShardState → ShardState) → ((number : ℕ) → change (new_shard_of c.limits number) ≡ new_shard_of c.limits number)
    → now.limits ≡ c.limits → now.rings ≡ c.rings → now.forgotten.items ≡ c.forgotten.items → now.shards.items ≡ map change c.shards.items
    → state_of now ≡ record (state_of c) { shards = map change (shards_of c); pool = now.pool; plan = now.plan }
state_of-mapped c now change same limits rings gone items =
    let all : shards_of now ≡ map change (shards_of c) =
    (λ i. all_shards (limits i) (items i)) ∙ completed-map 0 c.limits.shards (new_shard_of c.limits) change same c.shards.items in
    λ i. core_of (limits i) (all i) now.pool now.plan (rings i) (gone i)

-- the pair that comes next
pub next-IsNext : (core : CoreState) (pair : SpanId × SpanId) → next_pair core.plan ≡ Some pair → (plan : OpenPlan) × IsNext core plan pair
next-IsNext core pair e = by_plan core.plan refl e
  where
    by_plan : (o : Option OpenPlan) → core.plan ≡ o → next_pair o ≡ Some pair → (plan : OpenPlan) × IsNext core plan pair
    by_plan None is none = absurd cc
    by_plan (Some plan) is some = (plan, record { plan_is = is; pair_is = some })

-- the group of the next pair's owned head

-- it is below the most that there may be
pub number-named : (core : CoreState) (id : SpanId) (number : ℕ) → HasSoundGroups core → StandsIn core.shards id number → number < MOST_SHARDS
number-named core id number sound (other, here, has) = let within = slice_get_within core.shards number other here in omega (arith, sound.within.shards.1, sound.count)

-- the next pair's owned group is in a shard
pub owned-stands : (core : CoreState) (sound : IsSound core) (plan : OpenPlan) (pair : SpanId × SpanId) → IsNext core plan pair → (number : ℕ) × StandsIn core.shards pair.1 number
owned-stands core sound plan pair next =
    let there = (waits core sound plan pair next).is_owned in
    (there.number, (there.shard, there.shard_is, has_span-head core sound.groups pair.1 (waits core sound plan pair next).owned there))

-- the fields after a step
abbrev pub with_step_at : {L : Type 0} → Inside L → ℕ → ShardState → PoolState → Option OpenPlan → WhereaboutsState → Inside L
with_step_at c number after pool plan whereabouts = record c { shards = with_item c.shards number after; pool = pool; plan = plan; whereabouts = whereabouts }

state_of-with_step_at : {L : Type 0} (c : Inside L) (number : ℕ) (after : ShardState) (pool : PoolState) (plan : Option OpenPlan)
    (whereabouts : WhereaboutsState) → number < length c.shards.items
    → state_of (with_step_at c number after pool plan whereabouts) ≡ with_plan (with_pool (with_shard (state_of c) number after) pool) plan
state_of-with_step_at c number after pool plan whereabouts within =
    ap (λ shards. record (state_of c) { shards = shards; pool = pool; plan = plan }) (made-set c.limits c.shards.items number after within)

-- the shard of this number, which was made, has the span
pub made-named : {L : Type 0} (c : Inside L) {now : CoreState} → state_of c ≡ now → (id : SpanId) (number : ℕ) (shard : ShardState) → StandsIn now.shards id number
    → shard ≡ get_or c.shards.items number shard → IsRead c number shard × (has_span id shard ≡ true)
made-named c now_is id number shard stands read =
    let there : StandsIn (shards_of c) id number = subst (λ (s : CoreState). StandsIn s.shards id number) (sym now_is) stands in
    let within = standing-made c.limits c.shards.items id number there in
    let is_read : IsRead c number shard = record { within = omega (arith, within, c.shards.ok.0); value = read } in
    let same : there.0 ≡ shard = same_some (sym there.1 ∙ shard-read c number shard is_read) in
    (is_read, ap (has_span id) (sym same) ∙ there.2)

pub IsSoundStep-fold_fields : {L : Type 0} (c : Inside L) {now : CoreState} → state_of c ≡ now → (plan : OpenPlan) (pair : SpanId × SpanId) (number : ℕ) (before after : ShardState) (pool : PoolState)
    (current : Option OpenPlan) (whereabouts : WhereaboutsState) (step : Outcome) → IsSound (state_of c) → IsNext now plan pair
    → StandsIn now.shards pair.1 number → before ≡ get_or c.shards.items number before → Steps c.pool before pair.0 pair.1 step pool after
    → IsSoundShard after → IsSoundPool pool → current ≡ option_map with_next_done c.plan
    → IsSoundStep now Step (Stepped pair.0 pair.1 step) (state_of (with_step_at c number after pool current whereabouts))
IsSoundStep-fold_fields c now_is plan pair number before after pool current whereabouts step sound is_next there read steps sound_after sound_pool current_is =
    let named = made-named c now_is pair.1 number before there read in
    let next : IsNext (state_of c) plan pair = subst (λ s. IsNext s plan pair) (sym now_is) is_next in
    at_same (λ old new. IsSoundStep old Step (Stepped pair.0 pair.1 step) new) now_is
    (state_of-with_step_at c number after pool current whereabouts (slice_get_within c.shards.items number before (made-read c number before named.0))
    ∙ ap (with_plan (with_pool (with_shard (state_of c) number after) pool)) (current_is ∙ ap (option_map with_next_done) next.plan_is))
    (IsSoundStep-Steps (state_of c) sound plan pair next number before (shard-read c number before named.0) named.1 step after pool steps sound_after sound_pool)

-- a step that wants memory leaves the fields as they were
pub state_of-refused : {L : Type 0} (c : Inside L) {now : CoreState} → state_of c ≡ now → (id : SpanId) (number : ℕ) (before after : ShardState) (pool : PoolState) (whereabouts : WhereaboutsState)
    → StandsIn now.shards id number → before ≡ get_or c.shards.items number before → after ≡ before → pool ≡ c.pool
    → state_of (with_step_at c number after pool c.plan whereabouts) ≡ now
state_of-refused c now_is id number before after pool whereabouts there read same pool_is =
    state_of-both_same c number before after pool whereabouts (made-named c now_is id number before there read).0 same pool_is ∙ now_is
