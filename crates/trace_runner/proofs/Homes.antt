-- The shards that open the spans of the keys which puts give out.
use Rattle.trace_runner.proofs.Names.{◌≡◌, ◌⊎◌, ◌∙◌, ◌<◌, ◌≤◌, ◌++◌, ◌∷◌, [], ℕ, List, Some, length, refl, sym, ap, subst, arith, inl, inr, slice_get, AllByRecursion, cases_Bool, cases_lt, slice_get_past, slice_get_within, SpanId, class_of, Value, Class, Key, Puts, ShardState, HasSoundGroups, IsSound, CoreState, opened_by, opened_of, Limits, CoreRun, CoreStep, Event, Put, Reply, Issued, limits-CoreStep, AreHome, IsHome, is_put, keys_of, CalledEvent, Called, Made, all_called, events_of, replies_of, IsAnswered, key_given, rules}
use Rattle.shard.specs.Group.{GroupState}
use Rattle.groups.specs.Pages.{put_group}
use Rattle.arena_core.specs.Moved.{StandsIn}
use Rattle.marks.proofs.Lists.{slice_get-set_same}
use Rattle.arena_core.proofs.Changes.{opened-somewhere}
use Rattle.arena_core.proofs.Spans.{times-parts, times_in-found, times_in-le}
use Rattle.arena_core.proofs.Steps.{has_span-here}

-- a span that stands in a shard was opened by one of the core's
home-within : (core : CoreState) → HasSoundGroups core → (id : SpanId) (number : ℕ) → StandsIn core.shards id number → id.shard < length core.shards
home-within core sound id number (shard, at, has) = by_order (cases_lt id.shard (length core.shards))
  where
    opened : id.serial < opened_by core.shards id.shard
    opened = opened-somewhere core sound id (omega (arith, times_in-found id shard has, times_in-le id core.shards number shard at, times-parts id core))

    by_order : (id.shard < length core.shards) ⊎ (length core.shards ≤ id.shard) → id.shard < length core.shards
    by_order (inl within) = within
    by_order (inr past) = absurd (omega (arith, opened, ap opened_of (slice_get_past core.shards id.shard past)))

-- ---- one key

module _ (core : CoreState) (sound : IsSound core) (number : ℕ) (after : ShardState) (here : slice_get core.shards number ≡ Some after) where
  home-Puts : (before : ShardState) (class : Class) (value : Value) (key : Key) (at : ℕ) → Puts before class value key at after → key.span.shard < core.limits.shards
  home-Puts before class value key at (running, inl (index, group, room, span, generation, count, is)) =
      let placed : GroupState = put_group group class key.slot value in
      let there : slice_get after.groups index ≡ Some placed = ap (λ (s : ShardState). slice_get s.groups index) is ∙ slice_get-set_same before.groups index group placed room.here in
      let has = has_span-here after key.span index 0 placed placed.head (sound.groups.shards number after here).sound (record { group_is = there; span_is = refl; id_is = sym span }) in
      omega (arith, home-within core sound.groups key.span number (after, here, has), sound.groups.count)
  home-Puts before class value key at (running, inr (full, pages, opened, (shard, serial, slot, generation, count, (index, place, is)))) =
      omega (arith, shard, ap (λ (s : ShardState). s.number) is, (sound.groups.shards number after here).number_is, slice_get_within core.shards number after here, sound.groups.count)

home-Issued : (old new : CoreState) (event : Event) (key : Key) → CoreStep old event (Issued key) new → IsSound new → key.span.shard < new.limits.shards
home-Issued old new (Put number value) key step sound =
    let here : slice_get new.shards number ≡ Some step.after = ap (λ (c : CoreState). slice_get c.shards number) step.rest ∙ slice_get-set_same old.shards number step.before step.after step.here in
    home-Puts new sound number step.after here step.before (class_of value) value key step.at step.puts
home-Issued old new event key step sound = absurd step

-- ---- all keys of what was done

-- where it gives a key out, one of that many shards opened the key's span
abbrev IsGivenHome : ℕ → CalledEvent → Type 0
IsGivenHome shards (Called event (Issued key) core) = key.span.shard < shards
IsGivenHome shards called = Unit {0}

given_home : (old mid : CoreState) (event : Event) (reply : Reply) (core : CoreState) → CoreStep old event reply mid → IsSound mid → IsGivenHome old.limits.shards (Called event reply core)
given_home old mid event (Issued key) core step sound = subst (λ (limits : Limits). key.span.shard < limits.shards)
    (limits-CoreStep old mid event (Issued key) step) (home-Issued old mid event key step sound)
given_home old mid event reply core step sound = tt

each-given : (old new : CoreState) (called : List CalledEvent) → CoreRun old (events_of called) (replies_of called) new → AllByRecursion (IsGivenHome old.limits.shards) called
each-given old new [] run = tt
each-given old new (Called event reply core ∷ called) (mid, step, sound, run) = (
  given_home old mid event reply core step sound,
  subst (λ (limits : Limits). AllByRecursion (IsGivenHome limits.shards) called) (limits-CoreStep old mid event reply step) (each-given mid new called run),
)

pub each-parts : {X : Type 0} (P : X → Type 0) (xs ys : List X) → AllByRecursion P (xs ++ ys) → AllByRecursion P xs × AllByRecursion P ys
each-parts P [] ys all = (tt, all)
each-parts P (x ∷ xs) ys all = let parts = each-parts P xs ys all.1 in ((all.0, parts.0), parts.1)

home-given : (shards : ℕ) (called : List CalledEvent) → AllByRecursion (IsGivenHome shards) called → IsHome shards (key_given called)
home-given shards called all = search rules

AreHome-keys_of : (shards : ℕ) (made : List Made) → AllByRecursion (IsGivenHome shards) (all_called made) → AreHome shards (keys_of made)
AreHome-keys_of shards [] all = tt
AreHome-keys_of shards (m ∷ made) all =
    let parts = each-parts (IsGivenHome shards) m.called (all_called made) all in
    elim (cases_Bool (is_put m.asked)) [
      | inl put ↦ rw put (home-given shards m.called parts.0, AreHome-keys_of shards made parts.1)
      | inr other ↦ rw other (AreHome-keys_of shards made parts.1)
    ]

pub AreHome-answered : (old new : CoreState) (made : List Made) → IsAnswered old made new → AreHome old.limits.shards (keys_of made)
AreHome-answered old new made answered = AreHome-keys_of old.limits.shards made (each-given old new (all_called made) answered.steps.core)
