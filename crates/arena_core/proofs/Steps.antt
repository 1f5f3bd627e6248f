-- Where a span of a sound core stands, whether its key may be set there, and why a put is refused.
use Rattle.std.proofs.Common.{◌≡◌, ℕ, ◌≤◌, ◌⊎◌, inl, inr, true, false, refl, sym, ap, ◌∙◌, arith, Some, slice_get, is_some, Err, Result, ◌↔◌}
use Rattle.span.specs.declared.id.SpanId.{SpanId}
use Rattle.span.specs.declared.key.Key.{Key}
use Rattle.span.specs.Classes.{class_of}
use Rattle.span.specs.Log.{Value}
use Rattle.span.specs.PlainMap.{has_as_many, may_set}
use Rattle.shard.specs.Calls.{IsSpent}
use Rattle.shard.specs.Group.{GroupState}
use Rattle.shard.specs.Shown.{shown as shown_by}
use Rattle.shard.specs.Sound.{IsSound as IsSoundShard}
use Rattle.shard.specs.State.{ShardState}
use Rattle.groups.specs.Group.{IsElsewhere, IsHere, spans_of}
use Rattle.shard.specs.declared.error.PutError.{PutError}
use Rattle.shard.specs.declared.error.PutError.TheVariants as put_error
use Rattle.groups.proofs.GroupSpans.{elsewhere-times}
use Rattle.groups.proofs.Lists.{set-same}
use Rattle.groups.proofs.ShownGroups.{span_named-elsewhere, span_named-here}
use Rattle.span.specs.State.{SpanState}
use Rattle.pool.specs.Calls.{HasDoubled, IsDoubled, IsInPool, MayOpen}
use Rattle.pool.specs.State.{PoolState, PooledState}
use Rattle.arena_core.specs.declared.event.Event.TheVariants.{Put}
use Rattle.arena_core.specs.declared.reply.Reply.TheVariants as reply
use Rattle.arena_core.specs.Refusals.{refusal_of}
use Rattle.arena_core.specs.Sound.{HasSoundGroups}
use Rattle.arena_core.specs.State.{CoreState, has_span, opened_by, opened_of, shown, shown_at, with_pool, with_shard}
use Rattle.arena_core.specs.Step.{CoreStep}
use Rattle.arena_core.proofs.Changes.{at_most_once, opened-somewhere}
use Rattle.arena_core.proofs.Owners.{value-missed}
use Rattle.arena_core.proofs.Spans.{shard_with-here, times-parts, times_in, times_in-found, times_in-le, times_in-missed, times_owned, times_pooled}
use Rattle.std.proofs.lemmas.Bool.{false_from_ne_true, true≢false, true_from_ne_false}
use Rattle.arena_core.proofs.Lists.{not_below}
use Rattle.arena_core.specs.Plan.{IsOwned}

-- where a span stands

-- a span that stands in the shard
pub has_span-here : (shard : ShardState) (id : SpanId) (index place : ℕ) (group : GroupState) (span : SpanState) → IsSoundShard shard
    → IsHere shard.groups id index place group span → has_span id shard ≡ true
has_span-here shard id index place group span sound here = ap is_some (span_named-here shard.groups sound.groups sound.once id index place group span here)

-- a span that does not stand there
pub has_span-not : (shard : ShardState) (id : SpanId) → IsSoundShard shard → IsElsewhere shard.groups id → has_span id shard ≡ false
has_span-not shard id sound elsewhere = ap is_some (span_named-elsewhere shard.groups sound.groups sound.once id elsewhere)

pub elsewhere-has_span : (shard : ShardState) (id : SpanId) → IsSoundShard shard → has_span id shard ≡ false → IsElsewhere shard.groups id
elsewhere-has_span shard id sound none index group at place its =
    absurd (let has : has_span id shard ≡ true = has_span-here shard id index place group its.0 sound (record { group_is = at; span_is = its.1; id_is = its.2 }) in cc)

pub has_span-elsewhere : (shard : ShardState) (id : SpanId) → IsSoundShard shard → (IsElsewhere shard.groups id → ⊥) → has_span id shard ≡ true
has_span-elsewhere shard id sound some = true_from_ne_false (has_span id shard) (λ e. some (elsewhere-has_span shard id sound e))

pub pooled-somewhere : (pool : PoolState) (id : SpanId) → (IsElsewhere pool.groups id → ⊥) → 1 ≤ times_pooled id pool
pooled-somewhere pool id some = not_below (times_pooled id pool) 1 (λ none. some (elsewhere-times spans_of pool.groups id (omega arith)))

module _ (core : CoreState) (sound : HasSoundGroups core) where
  -- a shard has the head of its group
  pub has_span-head : (head : SpanId) (group : GroupState) (is : IsOwned core head group) → has_span head is.shard ≡ true
  has_span-head head group is = has_span-here is.shard head is.index 0 group group.head (sound.shards is.number is.shard is.shard_is).sound
      (record { group_is = is.head_of.here; span_is = refl; id_is = is.head_of.head_is })

  pub owned-once : (id : SpanId) → times_owned id core.shards ≤ 1
  owned-once id = omega (arith, times-parts id core, at_most_once core sound id)

  -- the shard that has the key's span answers for the key
  pub value-shard : (key : Key) (number : ℕ) (shard : ShardState) → slice_get core.shards number ≡ Some shard → has_span key.span shard ≡ true
      → (shown core).value_of key ≡ (shown_by shard).value_of key
  value-shard key number shard here has = ap (λ o. (shown_at core.pool o).value_of key) (shard_with-here key.span core.shards number shard here has (owned-once key.span))

  -- no span that moves stands twice

  pub not_in_pool : (number : ℕ) (shard : ShardState) → slice_get core.shards number ≡ Some shard → IsInPool core.pool shard → ⊥
  not_in_pool number shard here (index, group, at, (place, span, there, some)) =
      let one = times_in-found span.id shard (has_span-here shard span.id index place group span (sound.shards number shard here).sound (record { group_is = at; span_is = there; id_is = refl })) in
      omega (arith, pooled-somewhere core.pool span.id some, times_in-le span.id core.shards number shard here, times-parts span.id core, at_most_once core sound span.id)

  -- a span of a group of the pool is in no shard, and none may yet open it
  pub not_doubled_in : (number : ℕ) (shard : ShardState) → slice_get core.shards number ≡ Some shard → shard.ended ≡ false → (index : ℕ) (group : PooledState)
      → slice_get core.pool.groups index ≡ Some group → HasDoubled shard (spans_of group) → ⊥
  not_doubled_in number shard here running index group at (place, span, there, either) =
      let pooled : 1 ≤ times_pooled span.id core.pool = pooled-somewhere core.pool span.id (λ elsewhere. elsewhere index group at place (span, there, refl)) in
      let one : 1 ≤ times_in span.id shard = by_case pooled either in
      omega (arith, times_in-le span.id core.shards number shard here, times-parts span.id core, at_most_once core sound span.id)
    where
      by_case : 1 ≤ times_pooled span.id core.pool → MayOpen shard span.id ⊎ (IsElsewhere shard.groups span.id → ⊥) → 1 ≤ times_in span.id shard
      by_case pooled (inl (same, past)) =
          let fine = sound.shards number shard here in
          let named_so : span.id.shard ≡ number = same ∙ fine.number_is in
          let opened : opened_by core.shards span.id.shard ≡ shard.opened = ap (opened_by core.shards) named_so ∙ ap opened_of here in
          let below = opened-somewhere core sound span.id (omega (arith, times-parts span.id core)) in
          absurd (omega arith)
      by_case pooled (inr some) = times_in-found span.id shard (has_span-elsewhere shard span.id (sound.shards number shard here).sound some)

  pub not_doubled : (number : ℕ) (shard : ShardState) → slice_get core.shards number ≡ Some shard → shard.ended ≡ false → IsDoubled core.pool shard → ⊥
  not_doubled number shard here running (index, group, lowest, doubled) = not_doubled_in number shard here running index group lowest.here doubled

-- a put that its shard refuses
pub CoreStep-refused : (old : CoreState) (number : ℕ) (value : Value) (shard : ShardState) (error : PutError) → slice_get old.shards number ≡ Some shard
    → (◌≡◌ {A = Result (Key × ℕ) PutError} (Err error) (Err put_error.PagesSpent) ↔ ((shard.ended ≡ false) × IsSpent (class_of value) shard))
    → (◌≡◌ {A = Result (Key × ℕ) PutError} (Err error) (Err put_error.Ended) ↔ (shard.ended ≡ true))
    → CoreStep old (Put number value) (reply.Refused (refusal_of error)) old
CoreStep-refused old number value shard put_error.OutOfMemory here spent ended =
    let running = false_from_ne_true shard.ended (λ e. let no = ended.1 e in cc) in
    ((shard, record { here = here; running = running }, λ is. absurd (let e = spent.1 (running, is) in cc)), refl)
CoreStep-refused old number value shard put_error.PagesSpent here spent ended =
    let is = spent.0 refl in
    ((shard, record { here = here; running = is.0 }, is.1), refl)
CoreStep-refused old number value shard put_error.Ended here spent ended = ((shard, here, ended.0 refl), refl)

-- a shard or a pool that is as it was

pub with_shard-same : (old : CoreState) (number : ℕ) (before after : ShardState) → slice_get old.shards number ≡ Some before → after ≡ before → with_shard old number after ≡ old
with_shard-same old number before after here same = ap (with_shard old number) same ∙ ap (λ shards. record old { shards = shards }) (set-same old.shards number before here)

pub with_pool-same : (old : CoreState) (pool : PoolState) → pool ≡ old.pool → with_pool old pool ≡ old
with_pool-same old pool same = ap (with_pool old) same

-- sets

-- the shard that has the key's span decides whether the key may be set
pub may_set-shard : (old : CoreState) → HasSoundGroups old → (key : Key) (value : Value) (number : ℕ) (shard : ShardState)
    → slice_get old.shards number ≡ Some shard → has_span key.span shard ≡ true → may_set (shown old) key value ≡ may_set (shown_by shard) key value
may_set-shard old sound key value number shard here has = ap (has_as_many value) (value-shard old sound key number shard here has)

-- a shard without the span shows no key that may be set
pub has_span-may_set : (shard : ShardState) (key : Key) (value : Value) → may_set (shown_by shard) key value ≡ true → has_span key.span shard ≡ true
has_span-may_set shard key value may =
    true_from_ne_false (has_span key.span shard) (λ e. true≢false (sym may ∙ ap (has_as_many value) (value-missed shard key (times_in-missed key.span shard e))))
