-- The steps of a core, said of its fields.
use Rattle.std.proofs.Common.{◌≡◌, ℕ, true, cond, None, ap, ◌∙◌, is_some, subst, sym, refl}
use Rattle.std.proofs.lemmas.Bool.{false_from_ne_true}
use Rattle.std.proofs.option.Match.{None-if_not_some}
use Rattle.span.specs.declared.key.Key.{Key}
use Rattle.span.specs.Log.{Value}
use Rattle.span.specs.PlainMap.{PlainMap, has_as_many, may_set, with_value, without}
use Rattle.shard.specs.Calls.{Frees, Sets, was_freed, was_replaced}
use Rattle.shard.specs.Shown.{shown as shown_by}
use Rattle.shard.specs.Sound.{IsSound as IsSoundShard}
use Rattle.shard.specs.State.{ShardState}
use Rattle.shard.specs.declared.error.PutError.{PutError}
use Rattle.shard.specs.declared.error.PutError.TheVariants as put_error
use Rattle.shard.specs.declared.shard.Freed.{Freed}
use Rattle.shard.specs.declared.shard.Freed.TheVariants as freed
use Rattle.shard.specs.declared.shard.replacing.Replaced.{Replaced}
use Rattle.shard.specs.declared.shard.replacing.Replaced.TheVariants as replaced
use Rattle.pool.specs.Calls.{Sets as SetsPooled}
use Rattle.pool.specs.Shown.{shown as shown_by_pool}
use Rattle.pool.specs.Sound.{IsSound as IsSoundPool}
use Rattle.pool.specs.State.{PoolState}
use Rattle.arena_core.specs.declared.event.Event.TheVariants.{Put, Set, Free}
use Rattle.arena_core.specs.declared.machine.Core.TheInside.{Inside}
use Rattle.arena_core.specs.declared.reply.Refusal.TheVariants.{OutOfMemory}
use Rattle.arena_core.specs.declared.reply.Reply.TheVariants as reply
use Rattle.arena_core.specs.Kept.{state_of}
use Rattle.arena_core.specs.Moved.{StandsIn, StandsInNoOther, WhereaboutsState}
use Rattle.arena_core.specs.Plain.{PlainStep}
use Rattle.arena_core.specs.Refusals.{refusal_of}
use Rattle.arena_core.specs.Sound.{IsSound}
use Rattle.arena_core.specs.State.{CoreState, shown, with_pool, with_shard}
use Rattle.marks.specs.Numbers.{Limits}
use Rattle.arena_core.proofs.Fields.{IsRead, shard-read, state_of-with_both_at, state_of-with_shard_at, with_both_at, with_shard_at}
use Rattle.arena_core.proofs.Moved.{has_span-Frees, has_span-Sets, value-no_other}
use Rattle.arena_core.proofs.PlanSteps.{IsSoundStep, IsSoundStep-Frees, IsSoundStep-Sets, IsSoundStep-SetsPooled, IsSoundStep-set_refused}
use Rattle.arena_core.proofs.Steps.{has_span-may_set, may_set-shard, with_pool-same, with_shard-same}

-- a shard that is as it was leaves the fields as they were
pub state_of-same : {L : Type 0} (c : Inside L) (number : ℕ) (before after : ShardState) → IsRead c number before → after ≡ before → state_of (with_shard_at c number after) ≡ state_of c
state_of-same c number before after read same = state_of-with_shard_at c number before after read ∙ with_shard-same (state_of c) number before after (shard-read c number before read) same

-- a shard and a pool that are as they were leave the fields as they were
pub state_of-both_same : {L : Type 0} (c : Inside L) (number : ℕ) (before after : ShardState) (pool : PoolState) (whereabouts : WhereaboutsState)
    → IsRead c number before → after ≡ before → pool ≡ c.pool → state_of (with_both_at c number after pool whereabouts) ≡ state_of c
state_of-both_same c number before after pool whereabouts read same pool_is =
    state_of-with_both_at c number before after pool whereabouts read
    ∙ ap (with_pool (with_shard (state_of c) number after)) pool_is ∙ with_shard-same (state_of c) number before after (shard-read c number before read) same

-- what holds of two states holds of those that are the same
pub at_same : (P : CoreState → CoreState → Type 0) {old now new fields : CoreState} → old ≡ now → fields ≡ new → P old new → P now fields
at_same P {old = old} {fields = fields} now_is fields_are holds = subst (λ s. P s fields) now_is (subst (P old) (sym fields_are) holds)

-- a refused put is a step of the plain map that changes nothing
pub PlainStep-refused : (limits : Limits) (old new : PlainMap) (number : ℕ) (value : Value) (error : PutError) → new ≡ old
    → PlainStep limits old (Put number value) (reply.Refused (refusal_of error)) new
PlainStep-refused limits old new number value put_error.OutOfMemory same = same
PlainStep-refused limits old new number value put_error.PagesSpent same = same
PlainStep-refused limits old new number value put_error.Ended same = same

-- a set that the shard which was asked decides
pub IsStep-set_home : {L : Type 0} (c : Inside L) (now : CoreState) (number : ℕ) (key : Key) (value : Value) (before after : ShardState) (answer : Replaced)
    → state_of c ≡ now → IsSound (state_of c) → IsRead c number before → (answer ≡ replaced.NotHere → ⊥) → Sets before key value answer after
    → was_replaced answer ≡ may_set (shown_by before) key value → shown_by after ≡ cond (was_replaced answer) (with_value (shown_by before) key value) (shown_by before) → IsSoundShard after
    → IsSoundStep now (Set key value) (reply.Replaced (was_replaced answer)) (state_of (with_shard_at c number after))
IsStep-set_home c now number key value before after answer now_is kept read here sets found plain sound =
    let at = shard-read c number before read in
    let has = has_span-Sets before after key value answer (kept.groups.shards number before at).sound here sets in
    at_same (λ old new. IsSoundStep old (Set key value) (reply.Replaced (was_replaced answer)) new) now_is (state_of-with_shard_at c number before after read)
    (IsSoundStep-Sets (state_of c) key value number before after answer kept at has sets found plain sound)

-- a set that the shard refuses leaves the fields as they were
pub IsStep-set_refused_home : {L : Type 0} (c : Inside L) (now : CoreState) (number : ℕ) (key : Key) (value : Value) (before after : ShardState)
    → state_of c ≡ now → IsSound (state_of c) → IsRead c number before → may_set (shown_by before) key value ≡ true → after ≡ before
    → IsSoundStep now (Set key value) (reply.Refused OutOfMemory) (state_of (with_shard_at c number after))
IsStep-set_refused_home c now number key value before after now_is kept read may same =
    let has = has_span-may_set before key value may in
    at_same (λ old new. IsSoundStep old (Set key value) (reply.Refused OutOfMemory) new) now_is (state_of-same c number before after read same)
    (IsSoundStep-set_refused (state_of c) key value kept (may_set-shard (state_of c) kept.groups key value number before (shard-read c number before read) has ∙ may))

-- a key whose span is in no shard: the core shows under it what the pool shows
module _ {L : Type 0} (c : Inside L) (now : CoreState) (key : Key) (value : Value) (pool : PoolState) (now_is : state_of c ≡ now) (kept : IsSound (state_of c))
    (not_home : StandsIn now.shards key.span key.span.shard → ⊥) (no_other : StandsInNoOther now.shards key.span) where
  pooled : (shown (state_of c)).value_of key ≡ (shown_by_pool c.pool).value_of key
  pooled =
      value-no_other (state_of c) key (subst (λ (s : CoreState). StandsIn s.shards key.span key.span.shard → ⊥) (sym now_is) not_home)
      (subst (λ (s : CoreState). StandsInNoOther s.shards key.span) (sym now_is) no_other)

  -- a set that the pool decides
  pub IsStep-set_pooled : (answer : Replaced) → SetsPooled c.pool key value answer pool
      → was_replaced answer ≡ may_set (shown_by_pool c.pool) key value
      → shown_by_pool pool ≡ cond (was_replaced answer) (with_value (shown_by_pool c.pool) key value) (shown_by_pool c.pool) → IsSoundPool pool
      → IsSoundStep now (Set key value) (reply.Replaced (was_replaced answer)) (with_pool (state_of c) pool)
  IsStep-set_pooled answer sets found plain sound =
      at_same (λ old new. IsSoundStep old (Set key value) (reply.Replaced (was_replaced answer)) new) now_is refl
      (IsSoundStep-SetsPooled (state_of c) key value pool answer kept pooled sets found plain sound)

  -- a set that the pool refuses leaves the core as it was
  pub IsStep-set_refused_pooled : may_set (shown_by_pool c.pool) key value ≡ true → pool ≡ c.pool → IsSoundStep now (Set key value) (reply.Refused OutOfMemory) (with_pool (state_of c) pool)
  IsStep-set_refused_pooled may same =
      at_same (λ old new. IsSoundStep old (Set key value) (reply.Refused OutOfMemory) new) now_is (with_pool-same (state_of c) pool same)
      (IsSoundStep-set_refused (state_of c) key value kept (ap (has_as_many value) pooled ∙ may))

-- where the pool does not know of a plan, none is open
pub no_plan_if_adopted : {L : Type 0} (c : Inside L) → IsSound (state_of c) → (c.pool.has_plan ≡ true → ⊥) → c.plan ≡ None
no_plan_if_adopted c kept never = None-if_not_some c.plan (sym kept.plan.told ∙ false_from_ne_true c.pool.has_plan never)

-- a free that the shard which was asked first decides
pub IsStep-free_home : {L : Type 0} (c : Inside L) (now : CoreState) (number : ℕ) (key : Key) (before after : ShardState) (answer : Freed) → state_of c ≡ now
    → IsSound (state_of c) → IsRead c number before → (answer ≡ freed.NotHere → ⊥) → Frees before key answer after
    → was_freed answer ≡ is_some ((shown_by before).value_of key) → shown_by after ≡ cond (was_freed answer) (without (shown_by before) key) (shown_by before) → IsSoundShard after
    → IsSoundStep now (Free key) (reply.Freed (was_freed answer)) (state_of (with_shard_at c number after))
IsStep-free_home c now number key before after answer now_is kept read here frees found plain sound =
    let at = shard-read c number before read in
    let has = has_span-Frees before after key answer (kept.groups.shards number before at).sound here frees in
    at_same (λ old new. IsSoundStep old (Free key) (reply.Freed (was_freed answer)) new) now_is (state_of-with_shard_at c number before after read)
    (IsSoundStep-Frees (state_of c) key number before after answer kept at has frees found plain sound)
