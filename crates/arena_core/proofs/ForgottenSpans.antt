-- A core that forgets spans which can never be live again stays sound, and shows the same.
use Rattle.std.proofs.Common.{suc, ◌≡◌, ℕ, ◌+◌, Bool, true, false, not, cond, List, [], ◌∷◌, ◌++◌, None, Some, Option, map, slice_get, is_some, refl, sym, ap, subst, ◌∙◌, arith, inl, inr, MatchOption, sum_by}
use Rattle.std.specs.FinSet.{empty}
use Rattle.std.proofs.lemmas.List.{length-map}
use Rattle.std.proofs.lemmas.List.Sums.{sum_by-append, sum_by-cons}
use Rattle.span.specs.declared.id.SpanId.{SpanId}
use Rattle.span.specs.State.{SpanState}
use Rattle.groups.specs.Dead.{dead_among, dead_guests, is_dead, is_live, live_among, without_dead}
use Rattle.span.specs.Log.{live_slots}
use Rattle.page.specs.Words.{Words}
use Rattle.groups.specs.Group.{Group, paged_in, spans_in, spans_of}
use Rattle.groups.specs.Sound.{AreSoundGroups, AreStored}
use Rattle.groups.specs.Spans.{union_of}
use Rattle.groups.proofs.DeadGuests.{before-filter, live_slots-dead, live_slots-none}
use Rattle.groups.proofs.Lists.{in_either}
use Rattle.shard.specs.Group.{GroupState}
use Rattle.shard.specs.State.{ShardState}
use Rattle.shard.proofs.Forgotten.{IsSound-without_dead}
use Rattle.pool.specs.Forgets.{gone_from, unpaged_in}
use Rattle.pool.specs.State.{PoolState, PooledState}
use Rattle.pool.proofs.ForgottenPool.{IsSound-left, sum-paged}
use Rattle.marks.proofs.Flagged.{map_back}
use Rattle.arena_core.specs.Forgets.{dead_owned, dead_spans, with_forgotten, without_dead_groups, without_dead_guests}
use Rattle.arena_core.specs.Kept.{IsKept, shards_of, state_of}
use Rattle.arena_core.specs.Made.{all_shards, new_shard_of}
use Rattle.arena_core.specs.declared.machine.Core.TheInside.{Inside}
use Rattle.arena_core.specs.Moved.{KeepsStanding, KnowsMoved}
use Rattle.arena_core.specs.Sound.{HasSoundGroups, IsForgotten, IsSound, IsSoundAt}
use Rattle.arena_core.specs.State.{CoreState, all_spans, has_span, shown}
use Rattle.arena_core.proofs.Changes.{indicator, no_strays}
use Rattle.arena_core.proofs.Groups.{IsSoundAt-same, strays, strays-each}
use Rattle.arena_core.proofs.Logged.{shown-same}
use Rattle.arena_core.proofs.Made.{completed-flat_map, completed-map, made-get, standing-in_made}
use Rattle.arena_core.proofs.MarkSteps.{AreOpen-none}
use Rattle.arena_core.proofs.PlanSteps.{HasSoundPlan-none}
use Rattle.arena_core.proofs.Spans.{has_span-counted, named, sum_all, sum_all-parts, sum_in, sum_pooled, times_in-found}
use Rattle.std.proofs.lemmas.Bool.{not-true}
use Rattle.arena_core.proofs.Noted.{KnowsMoved-map}
use Rattle.arena_core.proofs.Flagged.{opened_of-map}
use Rattle.arena_core.proofs.Fields.{core_of}

-- sums over what is left and what went

module _ (w : SpanState → ℕ) where
  sum-live : (spans : List SpanState) → sum_by w (live_among spans) + sum_by w (dead_among spans) ≡ sum_by w spans
  sum-live [] = refl
  sum-live (span ∷ rest) = by_test (is_live span) (sum-live rest)
    where
      by_test : (b : Bool) → sum_by w (live_among rest) + sum_by w (dead_among rest) ≡ sum_by w rest
          → sum_by w (cond b (span ∷ live_among rest) (live_among rest)) + sum_by w (cond (not b) (span ∷ dead_among rest) (dead_among rest)) ≡ sum_by w (span ∷ rest)
      by_test true later = omega (arith, later, sum_by-cons w span (live_among rest), sum_by-cons w span rest)
      by_test false later = omega (arith, later, sum_by-cons w span (dead_among rest), sum_by-cons w span rest)

  sum-without_dead : {Closed : Type 0} (groups : List (Group Closed)) → sum_by w (spans_in (map without_dead groups)) + sum_by w (dead_guests groups) ≡ sum_by w (spans_in groups)
  sum-without_dead [] = refl
  sum-without_dead (group ∷ groups) =
      omega (
        arith,
        sum-without_dead groups,
        sum-live group.guests,
        sum_by-cons w group.head (live_among group.guests ++ spans_in (map without_dead groups)),
        sum_by-cons w group.head (group.guests ++ spans_in groups),
        sum_by-append w (live_among group.guests) (spans_in (map without_dead groups)),
        sum_by-append w group.guests (spans_in groups),
        sum_by-append w (dead_among group.guests) (dead_guests groups),
      )

  sum-owned : (shards : List ShardState) → sum_by (sum_in w) (map without_dead_guests shards) + sum_by w (dead_owned shards) ≡ sum_by (sum_in w) shards
  sum-owned [] = refl
  sum-owned (shard ∷ shards) =
      omega (
        arith,
        sum-owned shards,
        sum-without_dead shard.groups,
        sum_by-cons (sum_in w) (without_dead_guests shard) (map without_dead_guests shards),
        sum_by-cons (sum_in w) shard shards,
        sum_by-append w (dead_guests shard.groups) (dead_owned shards),
      )

  sum-pooled : (pool : PoolState) → sum_pooled w (without_dead_groups pool) + sum_by w (gone_from pool.groups) ≡ sum_pooled w pool
  sum-pooled pool = omega (arith, sum-without_dead (paged_in pool.groups), sum-paged w pool.groups, sum_by-append w (dead_guests (paged_in pool.groups)) (spans_in (unpaged_in pool.groups)))

  -- no span comes or goes, but to those that were forgotten
  sum_all-forgotten : (core : CoreState) → sum_all w (with_forgotten core) ≡ sum_all w core
  sum_all-forgotten core =
      omega (
        arith,
        sum_all-parts w (with_forgotten core),
        sum_all-parts w core,
        sum-owned core.shards,
        sum-pooled core.pool,
        sum_by-append w core.forgotten (dead_spans core.shards core.pool),
        sum_by-append w (dead_owned core.shards) (gone_from core.pool.groups),
      )

-- what went can be forgotten

forgotten-guests : {Closed : Type 0} (groups : List (Group Closed)) → AreSoundGroups groups → (place : ℕ) (span : SpanState) → slice_get (dead_guests groups) place ≡ Some span → IsForgotten span
forgotten-guests [] sound place span here = absurd cc
forgotten-guests (group ∷ groups) sound place span here = elim (in_either (dead_among group.guests) (dead_guests groups) place span here) [
  | inl first ↦
      let was = before-filter is_dead group.guests place span first in
      record { legal = (sound 0 group refl).legal (suc was.0) span was.1; none_live = live_slots-dead span (not-true (is_live span) was.2) }
  | inr later ↦ forgotten-guests groups (λ index g at. sound (suc index) g at) later.0 span later.1
]

forgotten-owned : (shards : List ShardState) → ((number : ℕ) (shard : ShardState) → slice_get shards number ≡ Some shard → AreSoundGroups shard.groups)
    → (place : ℕ) (span : SpanState) → slice_get (dead_owned shards) place ≡ Some span → IsForgotten span
forgotten-owned [] sound place span here = absurd cc
forgotten-owned (shard ∷ shards) sound place span here = elim (in_either (dead_guests shard.groups) (dead_owned shards) place span here) [
  | inl first ↦ forgotten-guests shard.groups (sound 0 shard refl) place span first
  | inr later ↦ forgotten-owned shards (λ number s at. sound (suc number) s at) later.0 span later.1
]

forgotten-unpaged : (groups : List PooledState) → AreSoundGroups groups
    → ((index : ℕ) (group : PooledState) → slice_get groups index ≡ Some group → is_some group.page ≡ false) → (place : ℕ) (span : SpanState)
    → slice_get (spans_in groups) place ≡ Some span → IsForgotten span
forgotten-unpaged [] sound none place span here = absurd cc
forgotten-unpaged (group ∷ groups) sound none place span here = elim (in_either (spans_of group) (spans_in groups) place span here) [
  | inl first ↦ record { legal = (sound 0 group refl).legal place span first; none_live = by_page group.page (none 0 group refl) (sound 0 group refl).page first }
  | inr later ↦ forgotten-unpaged groups (λ index g at. sound (suc index) g at) (λ index g at. none (suc index) g at) later.0 span later.1
]
  where
    by_page : (page : Option Words) → is_some page ≡ false → MatchOption page (union_of (spans_of group) ≡ empty) (AreStored (spans_of group))
        → slice_get (spans_of group) place ≡ Some span → live_slots span.log ≡ empty
    by_page None e empty first = live_slots-none (spans_of group) empty place span first
    by_page (Some words) e stored first = absurd cc

forgotten-pooled : (groups : List PooledState) → AreSoundGroups groups → (place : ℕ) (span : SpanState) → slice_get (gone_from groups) place ≡ Some span → IsForgotten span
forgotten-pooled groups sound place span here = elim (in_either (dead_guests (paged_in groups)) (spans_in (unpaged_in groups)) place span here) [
  | inl guest ↦ forgotten-guests (paged_in groups) (λ index g at. let was = before-filter (λ (g : PooledState). is_some g.page) groups index g at in sound was.0 g was.1) place span guest
  | inr other ↦
      forgotten-unpaged (unpaged_in groups) (λ index g at. let was = before-filter (λ (g : PooledState). not (is_some g.page)) groups index g at in sound was.0 g was.1)
      (λ index g at. let was = before-filter (λ (g : PooledState). not (is_some g.page)) groups index g at in not-true (is_some g.page) was.2) other.0 span other.1
]

-- the core

module _ (core : CoreState) (sound : IsSound core) where
  HasSoundGroups-forgotten : HasSoundGroups (with_forgotten core)
  HasSoundGroups-forgotten = record {
    within = sound.groups.within;
    count = length-map core.shards without_dead_guests ∙ sound.groups.count;
    shards = λ number shard at.
        let (was, here, is) = map_back without_dead_guests core.shards number shard at in
        let fine = sound.groups.shards number was here in
        subst (IsSoundAt core.limits number) is
        (IsSoundAt-same core.limits number was (without_dead_guests was) refl fine (IsSound-without_dead was fine.sound));
    pool = IsSound-left core.pool sound.groups.pool;
    gens = strays-each core.limits.gens (all_spans (with_forgotten core)) (sum_all-forgotten (strays core.limits.gens) core ∙ no_strays core sound.groups);
    once = λ id. sum_all-forgotten (named id) core ∙ sound.groups.once id ∙ ap (indicator id.serial) (sym (opened_of-map without_dead_guests (λ shard. refl) core.shards id.shard));
    forgotten = λ place span here. elim (in_either core.forgotten (dead_spans core.shards core.pool) place span here) [
      | inl before ↦ sound.groups.forgotten place span before
      | inr now ↦ elim (in_either (dead_owned core.shards) (gone_from core.pool.groups) now.0 span now.1) [
        | inl owned ↦ forgotten-owned core.shards (λ number shard at. (sound.groups.shards number shard at).sound.groups) now.0 span owned
        | inr pooled ↦ forgotten-pooled core.pool.groups sound.groups.pool.groups pooled.0 span pooled.1
      ]
    ];
  }

  pub IsSound-forgotten : core.plan ≡ None → IsSound (with_forgotten core)
  IsSound-forgotten none = record {
    groups = HasSoundGroups-forgotten;
    plan = HasSoundPlan-none (with_forgotten core) none (sound.plan.told ∙ ap is_some none) (λ number shard here index group at.
        let (was, there, is) = map_back without_dead_guests core.shards number shard here in
        let (before, stood, same) = map_back without_dead was.groups index group (subst (λ (s : ShardState). slice_get s.groups index ≡ Some group) (sym is) at) in
        subst (λ (g : GroupState). g.closed ≡ false) same (AreOpen-none core sound none number was there index before stood));
    rings = sound.rings;
  }

  -- the map stays as it is
  pub shown-forgotten : shown (with_forgotten core) ≡ shown core
  shown-forgotten = shown-same core (with_forgotten core) sound.groups HasSoundGroups-forgotten refl (λ w. sum_all-forgotten w core)

-- a span that stands in a shard stood there before
has_span-forgotten : (shard : ShardState) (id : SpanId) → has_span id (without_dead_guests shard) ≡ true → has_span id shard ≡ true
has_span-forgotten shard id has = has_span-counted id shard (omega (arith, times_in-found id (without_dead_guests shard) has, sum-without_dead (named id) shard.groups))

-- a new shard has no guest
pub dead_owned-all : {L : Type 0} (c : Inside L) → dead_owned (shards_of c) ≡ dead_owned c.shards.items
dead_owned-all c = completed-flat_map 0 c.limits.shards (new_shard_of c.limits) (λ shard. dead_guests shard.groups) (λ k. refl) c.shards.items

-- the fields
module _ {L : Type 0} (c now : Inside L) (kept : IsKept c) (limits : now.limits ≡ c.limits) (pool : now.pool ≡ without_dead_groups c.pool) (plan : now.plan ≡ c.plan)
    (keeps : KeepsStanding now.shards.items c.whereabouts.entries now.whereabouts.entries) (rings : now.rings ≡ c.rings)
    (items : now.shards.items ≡ map without_dead_guests c.shards.items) (gone : now.forgotten.items ≡ c.forgotten.items ++ dead_spans c.shards.items c.pool) where
  all_are : shards_of now ≡ map without_dead_guests (shards_of c)
  all_are = (λ i. all_shards (limits i) (items i)) ∙ completed-map 0 c.limits.shards (new_shard_of c.limits) without_dead_guests (λ k. refl) c.shards.items

  gone_all : now.forgotten.items ≡ c.forgotten.items ++ dead_spans (shards_of c) c.pool
  gone_all = gone ∙ ap (λ spans. c.forgotten.items ++ (spans ++ gone_from c.pool.groups)) (sym (dead_owned-all c))

  pub state_of-forgotten : state_of now ≡ with_forgotten (state_of c)
  state_of-forgotten = λ i. core_of (limits i) (all_are i) (pool i) (plan i) (rings i) (gone_all i)

  -- what is named stands in a shard that was made
  keeps_all : KeepsStanding (shards_of now) c.whereabouts.entries now.whereabouts.entries
  keeps_all = record {
    kept = λ id number named (shard, here, has).
        keeps.kept id number named (standing-in_made now.limits now.shards.items id number (shard, here, has));
    stands = λ id number named.
        let (shard, here, has) = keeps.stands id number named in
        (shard, made-get now.limits now.shards.items number shard here, has);
  }

  pub IsKept-forgotten : c.plan ≡ None → IsKept now
  IsKept-forgotten none = record {
    sound = subst IsSound (sym state_of-forgotten) (IsSound-forgotten (state_of c) kept.sound none);
    moved = λ id number foreign stands.
        let known = subst (λ shards. KnowsMoved shards c.whereabouts.entries) (sym all_are)
        (KnowsMoved-map (shards_of c) c.whereabouts.entries kept.moved without_dead_guests has_span-forgotten) in
        keeps_all.kept id number (known id number foreign stands) stands;
  }
