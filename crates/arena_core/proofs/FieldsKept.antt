-- What the fields of a core keep, where a shard, the pool and the whereabouts change.
use Rattle.std.proofs.Common.{◌≡◌, ◌≢◌, ℕ, Bool, Option, Result, Ok, Err, IfOk, OnErr, true, false, cond, ap, is_some, length, map, refl, set, subst, sym, ◌∙◌}
use Rattle.std.specs.declared.alloc.AllocError.{AllocError}
use Rattle.span.specs.declared.id.SpanId.{SpanId}
use Rattle.span.specs.declared.key.Key.{Key}
use Rattle.span.specs.Classes.{class_of}
use Rattle.span.specs.Log.{Value}
use Rattle.span.specs.PlainMap.{may_set, with_value, without}
use Rattle.shard.specs.Calls.{Frees, Puts, Sets, was_freed, was_replaced}
use Rattle.shard.specs.Group.{GroupState}
use Rattle.shard.specs.Shown.{shown as shown_by}
use Rattle.shard.specs.Sound.{IsSound as IsSoundShard}
use Rattle.shard.specs.State.{ShardState}
use Rattle.shard.specs.declared.shard.Freed.{Freed}
use Rattle.shard.specs.declared.shard.Freed.TheVariants as freed
use Rattle.shard.specs.declared.shard.replacing.Replaced.{Replaced}
use Rattle.shard.specs.declared.shard.replacing.Replaced.TheVariants as replaced
use Rattle.pool.specs.Calls.{Receives}
use Rattle.pool.specs.State.{PoolState}
use Rattle.arena_core.specs.declared.machine.Core.TheInside.{Inside}
use Rattle.arena_core.specs.Kept.{IsKept, shards_of, state_of}
use Rattle.arena_core.specs.Made.{all_shards, new_shard_of}
use Rattle.arena_core.specs.Moved.{Entries, KnowsMoved, Notes, WhereaboutsState}
use Rattle.arena_core.specs.Sound.{IsSound}
use Rattle.marks.specs.Numbers.{Limits}
use Rattle.marks.specs.Plans.{OpenPlan}
use Rattle.arena_core.specs.State.{has_span, new_core}
use Rattle.arena_core.proofs.FieldSteps.{IsStep-free_home, IsStep-set_home, state_of-both_same, state_of-same}
use Rattle.arena_core.proofs.Fields.{IsRead, shard-read, state_of-unchanged, with_both_at, with_shard_at, set-read}
use Rattle.arena_core.proofs.Made.{completed-map}
use Rattle.marks.proofs.Flagged.{with_flags}
use Rattle.arena_core.proofs.Groups.{IsCall-ChangesSpan, IsCall-Puts}
use Rattle.arena_core.proofs.MarkSteps.{with_step_at}
use Rattle.arena_core.proofs.Noted.{Comes, KnowsMoved-map, KnowsMoved-noted, KnowsMoved-set, has_span-flagged, kept-IsCall, kept-emptied, kept-part}
use Rattle.pool.specs.Retires.{Retires}
use Rattle.shard.specs.Trims.{Trims, changed_from, trimmed}
use Rattle.arena_core.proofs.Trimmed.{IsCall-trimmed, all_trimmed}
use Rattle.arena_core.proofs.OneSpan.{ChangesSpan-Frees, ChangesSpan-Sets}
use Rattle.arena_core.proofs.Retired.{HasGone-Retires}
use Rattle.arena_core.proofs.Start.{slice_get-range}

-- the shard gets no span that it did not open
abbrev pub GetsNone : ℕ → ShardState → ShardState → Type 0
GetsNone number before after = (id : SpanId) → number ≢ id.shard → has_span id after ≡ true → has_span id before ≡ true

module _ {L : Type 0} (c : Inside L) (kept : IsKept c) (number : ℕ) (before : ShardState) (read : IsRead c number before) where
  number_is : before.number ≡ number
  number_is = (kept.sound.groups.shards number before (shard-read c number before read)).number_is

  moved_set : (after : ShardState) → GetsNone number before after → KnowsMoved (all_shards c.limits (set c.shards.items number after)) c.whereabouts.entries
  moved_set after none = subst (λ shards. KnowsMoved shards c.whereabouts.entries) (sym (set-read c number before after read))
      (KnowsMoved-set (shards_of c) c.whereabouts.entries kept.moved number before after (shard-read c number before read) none)

  pub GetsNone-Puts : (value : Value) (key : Key) (at : ℕ) (after : ShardState) → Puts before (class_of value) value key at after → GetsNone number before after
  GetsNone-Puts value key at after puts = kept-IsCall before after number number_is (IsCall-Puts before after value key at puts)

  pub GetsNone-same : (after : ShardState) → after ≡ before → GetsNone number before after
  GetsNone-same after same id foreign has = ap (has_span id) (sym same) ∙ has

  pub GetsNone-Frees : (key : Key) (answer : Freed) (after : ShardState) → Frees before key answer after → GetsNone number before after
  GetsNone-Frees key (freed.Yes at) after frees = kept-IsCall before after number number_is (IsCall-ChangesSpan before after (ChangesSpan-Frees before after key at frees))
  GetsNone-Frees key (freed.No at) after (index, place, group, span, there, dead, at_is, same) = GetsNone-same after same
  GetsNone-Frees key freed.NotHere after frees = GetsNone-same after frees.1

  pub GetsNone-Sets : (key : Key) (value : Value) (answer : Replaced) (after : ShardState) → Sets before key value answer after → GetsNone number before after
  GetsNone-Sets key value (replaced.Yes at) after sets = kept-IsCall before after number number_is (IsCall-ChangesSpan before after (ChangesSpan-Sets before after key value at sets))
  GetsNone-Sets key value (replaced.No at) after (index, place, group, span, there, unfit, at_is, same) = GetsNone-same after same
  GetsNone-Sets key value replaced.NotHere after sets = GetsNone-same after sets.1

  pub GetsNone-Receives : (pool_before pool_after : PoolState) (after : ShardState) → Receives pool_before before pool_after after → GetsNone number before after
  GetsNone-Receives pool_before pool_after after receives id foreign has = kept-emptied before after (ap (λ (s : ShardState). s.groups) receives.after) id has

  -- the groups that are left were there
  pub GetsNone-Retires : (pool_before pool_after : PoolState) (most count : ℕ) (after : ShardState) → IsSoundShard before → IsSoundShard after
      → Retires pool_before before most count pool_after after → GetsNone number before after
  GetsNone-Retires pool_before pool_after most count after sound sound_after retires id foreign has =
      kept-part before after sound sound_after (HasGone-Retires pool_before before most count pool_after after retires).part id has

  pub GetsNone-trimmed : (from count : ℕ) (after : ShardState) → after ≡ record before { groups = changed_from trimmed from count before.groups } → GetsNone number before after
  GetsNone-trimmed from count after is = kept-IsCall before after number number_is (IsCall-trimmed before after from count is)

  pub GetsNone-Trims : (count : ℕ) (after : ShardState) → Trims before count after → GetsNone number before after
  GetsNone-Trims count after trims = GetsNone-trimmed 0 (length before.groups) after (all_trimmed before after count trims)

  pub IsKept-with_both_at : (after : ShardState) (pool : PoolState) → GetsNone number before after
      → IsSound (state_of (with_both_at c number after pool c.whereabouts)) → IsKept (with_both_at c number after pool c.whereabouts)
  IsKept-with_both_at after pool none sound = record { sound = sound; moved = moved_set after none }

  pub IsKept-with_shard_at : (after : ShardState) → GetsNone number before after → IsSound (state_of (with_shard_at c number after)) → IsKept (with_shard_at c number after)
  IsKept-with_shard_at after none sound = record { sound = sound; moved = moved_set after none }

  -- a shard and a pool that are as they were
  pub IsKept-both_same : (after : ShardState) (pool : PoolState) → after ≡ before → pool ≡ c.pool → IsKept (with_both_at c number after pool c.whereabouts)
  IsKept-both_same after pool same pool_is = IsKept-with_both_at after pool (GetsNone-same after same)
      (subst IsSound (sym (state_of-both_same c number before after pool c.whereabouts read same pool_is)) kept.sound)

  -- the same, where only the room of the whereabouts is another
  pub IsKept-room_made : (after : ShardState) (pool : PoolState) (roomy : WhereaboutsState) → after ≡ before → pool ≡ c.pool
      → roomy.entries ≡ c.whereabouts.entries → IsKept (with_both_at c number after pool roomy)
  IsKept-room_made after pool roomy same pool_is entries = record {
    sound = subst IsSound (sym (state_of-both_same c number before after pool roomy read same pool_is)) kept.sound;
    moved = subst (KnowsMoved (all_shards c.limits (set c.shards.items number after))) (sym entries) (IsKept-both_same after pool same pool_is).moved;
  }

  pub IsKept-same : (after : ShardState) → after ≡ before → IsKept (with_shard_at c number after)
  IsKept-same after same = IsKept-with_shard_at after (GetsNone-same after same) (subst IsSound (sym (state_of-same c number before after read same)) kept.sound)

  -- a free, whatever it answers
  pub IsKept-free : (key : Key) (answer : Freed) (after : ShardState) → Frees before key answer after
      → was_freed answer ≡ is_some ((shown_by before).value_of key) → shown_by after ≡ cond (was_freed answer) (without (shown_by before) key) (shown_by before)
      → IsSoundShard after
      → IsKept (with_shard_at c number after)
  IsKept-free key (freed.Yes at) after frees found plain sound =
      IsKept-with_shard_at after (GetsNone-Frees key (freed.Yes at) after frees)
      (IsStep-free_home c (state_of c) number key before after (freed.Yes at) refl kept.sound read (λ e. absurd cc) frees found plain sound).kept
  IsKept-free key (freed.No at) after frees found plain sound =
      IsKept-with_shard_at after (GetsNone-Frees key (freed.No at) after frees)
      (IsStep-free_home c (state_of c) number key before after (freed.No at) refl kept.sound read (λ e. absurd cc) frees found plain sound).kept
  IsKept-free key freed.NotHere after frees found plain sound = IsKept-same after frees.1

  -- a set, whatever it answers
  pub IsKept-set : (key : Key) (value : Value) (answer : Replaced) (after : ShardState) → Sets before key value answer after
      → was_replaced answer ≡ may_set (shown_by before) key value
      → shown_by after ≡ cond (was_replaced answer) (with_value (shown_by before) key value) (shown_by before) → IsSoundShard after
      → IsKept (with_shard_at c number after)
  IsKept-set key value (replaced.Yes at) after sets found plain sound =
      IsKept-with_shard_at after (GetsNone-Sets key value (replaced.Yes at) after sets)
      (IsStep-set_home c (state_of c) number key value before after (replaced.Yes at) refl kept.sound read (λ e. absurd cc) sets found plain sound).kept
  IsKept-set key value (replaced.No at) after sets found plain sound =
      IsKept-with_shard_at after (GetsNone-Sets key value (replaced.No at) after sets)
      (IsStep-set_home c (state_of c) number key value before after (replaced.No at) refl kept.sound read (λ e. absurd cc) sets found plain sound).kept
  IsKept-set key value replaced.NotHere after sets found plain sound = IsKept-same after sets.1

  -- the same, also if memory fails
  pub IsKept-set_result : (key : Key) (value : Value) (result : Result Replaced AllocError) (after : ShardState) → IfOk result (λ answer. Sets before key value answer after)
      → IfOk result (λ answer. was_replaced answer ≡ may_set (shown_by before) key value)
      → IfOk result (λ answer. shown_by after ≡ cond (was_replaced answer) (with_value (shown_by before) key value) (shown_by before)) → OnErr result (after ≡ before)
      → IsSoundShard after → IsKept (with_shard_at c number after)
  IsKept-set_result key value (Ok answer) after sets found plain same sound = IsKept-set key value answer after sets found plain sound
  IsKept-set_result key value (Err error) after sets found plain same sound = IsKept-same after same

  -- spans come in, and are noted
  pub IsKept-noted : (after : ShardState) (pool : PoolState) (plan : Option OpenPlan) (noted : WhereaboutsState) (head : SpanId) (first : ℕ)
      → Comes before after head first → Notes c.whereabouts.entries noted.entries after.groups head first number
      → IsSound (state_of (with_step_at c number after pool plan noted)) → IsKept (with_step_at c number after pool plan noted)
  IsKept-noted after pool plan noted head first comes notes sound = record {
    sound = sound;
    moved = KnowsMoved-noted (state_of c) (state_of (with_step_at c number after pool plan noted)) sound.groups number before after
        (shard-read c number before read) (set-read c number before after read) c.whereabouts.entries noted.entries head first kept.moved comes notes;
  }

-- only the room of the whereabouts is another
pub IsKept-roomy : {L : Type 0} (c : Inside L) (roomy : WhereaboutsState) → IsKept c → roomy.entries ≡ c.whereabouts.entries → IsKept (record c { whereabouts = roomy })
IsKept-roomy c roomy kept entries = record { sound = kept.sound; moved = subst (KnowsMoved (shards_of c)) (sym entries) kept.moved }

-- each shard has the spans that it had
pub IsKept-mapped : {L : Type 0} (c now : Inside L) → IsKept c → now.limits ≡ c.limits → now.whereabouts ≡ c.whereabouts → (closed : GroupState → Bool)
    → now.shards.items ≡ map (with_flags closed) c.shards.items → IsSound (state_of now) → IsKept now
IsKept-mapped c now kept limits whereabouts closed items sound =
    let all : shards_of now ≡ map (with_flags closed) (shards_of c) =
    (λ i. all_shards (limits i) (items i)) ∙ completed-map 0 c.limits.shards (new_shard_of c.limits) (with_flags closed) (λ k. refl) c.shards.items in
    record {
      sound = sound;
      moved =
          subst (KnowsMoved (shards_of now)) (sym (ap (λ (w : WhereaboutsState). w.entries) whereabouts))
          (subst (λ shards. KnowsMoved shards c.whereabouts.entries) (sym all) (KnowsMoved-map (shards_of c) c.whereabouts.entries kept.moved (with_flags closed) (has_span-flagged closed)));
    }

-- fields that show as they did
pub IsKept-unchanged : {L : Type 0} (c now : Inside L) → IsKept c → now.limits ≡ c.limits → now.plan ≡ c.plan → now.whereabouts ≡ c.whereabouts
    → now.rings ≡ c.rings → now.forgotten.items ≡ c.forgotten.items → shards_of now ≡ shards_of c → now.pool ≡ c.pool → IsKept now
IsKept-unchanged c now kept limits plan whereabouts rings gone shards pool =
    let same : state_of now ≡ state_of c = state_of-unchanged c now limits plan rings gone shards pool in
    record {
      sound = subst IsSound (sym same) kept.sound;
      moved = subst (KnowsMoved (shards_of now)) (sym (ap (λ (w : WhereaboutsState). w.entries) whereabouts)) (subst (λ shards. KnowsMoved shards c.whereabouts.entries) (sym shards) kept.moved);
    }

-- no shard has a span
pub KnowsMoved-new : (limits : Limits) (entries : Entries) → KnowsMoved (new_core limits).shards entries
KnowsMoved-new limits entries id number foreign (shard, at, has) =
    let is = slice_get-range limits 0 limits.shards number shard at in
    absurd (let never : false ≡ true = ap (has_span id) is.1 ∙ has in cc)
