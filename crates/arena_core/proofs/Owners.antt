-- What a core shows under a key, as a sum over its shards and its pool: all but one show nothing.
use Rattle.std.proofs.Common.{◌≡◌, ℕ, zero, suc, ◌+◌, ◌||◌, ◌∙◌, sym, ◌≤◌, Bool, true, false, cond, List, [], ◌∷◌, refl, ap, arith, Option, Some, None, sum_by}
use Rattle.std.proofs.lemmas.Bool.{false≢true}
use Rattle.std.proofs.lemmas.List.Sums.{sum_by-cons}
use Rattle.span.specs.declared.id.SpanId.{SpanId}
use Rattle.span.specs.declared.key.Key.{Key}
use Rattle.span.specs.Log.{Value}
use Rattle.span.specs.PlainMap.{PlainMap}
use Rattle.shard.specs.Shown.{shown as shown_by}
use Rattle.groups.specs.Shown.{issued_by, value_by}
use Rattle.shard.specs.State.{ShardState}
use Rattle.groups.proofs.Lists.{find-none}
use Rattle.pool.specs.Shown.{shown as shown_by_pool}
use Rattle.pool.specs.State.{PoolState}
use Rattle.groups.specs.Group.{spans_in}
use Rattle.arena_core.proofs.Codes.{code_of_words, code_of_words-injective}
use Rattle.arena_core.specs.State.{CoreState, has_span, issued_forgotten, shard_with, shown, shown_at}
use Rattle.arena_core.proofs.Spans.{is_named, times, times-parts, times_forgotten, times_in, times_in-found, times_in-missed, times_owned, times_owned-cons, times_pooled}

-- a value as a number, none being 0
abbrev pub code : Option Value → ℕ
code None = 0
code (Some value) = suc (code_of_words value)

pub code-injective : (a b : Option Value) → code a ≡ code b → a ≡ b
code-injective None None e = refl
code-injective None (Some value) e = absurd (omega arith)
code-injective (Some value) None e = absurd (omega arith)
code-injective (Some value) (Some other) e = ap Some (code_of_words-injective value other (omega arith))

abbrev pub bit : Bool → ℕ
bit b = cond {A = ℕ} b 1 0

pub bit-injective : (a b : Bool) → bit a ≡ bit b → a ≡ b
bit-injective true true e = refl
bit-injective true false e = absurd (omega arith)
bit-injective false true e = absurd (omega arith)
bit-injective false false e = refl

-- what is read of a map of keys under an id is nothing where the id does not stand
module _ (id : SpanId) (read : PlainMap → ℕ)
    (missed : (shard : ShardState) → times_in id shard ≡ 0 → read (shown_by shard) ≡ 0) (missed_pooled : (pool : PoolState) → times_pooled id pool ≡ 0 → read (shown_by_pool pool) ≡ 0) where
  none-owned : (shards : List ShardState) → times_owned id shards ≡ 0 → sum_by (λ shard. read (shown_by shard)) shards ≡ 0
  none-owned [] none = refl
  none-owned (shard ∷ shards) none =
      omega (
        arith,
        times_owned-cons id shard shards,
        sum_by-cons (λ s. read (shown_by s)) shard shards,
        missed shard (omega (arith, times_owned-cons id shard shards)),
        none-owned shards (omega (arith, times_owned-cons id shard shards)),
      )

  pub read-shown_at : (pool : PoolState) (shards : List ShardState) → times_owned id shards + times_pooled id pool ≤ 1
      → read (shown_at pool (shard_with shards id)) ≡ sum_by (λ shard. read (shown_by shard)) shards + read (shown_by_pool pool)
  read-shown_at pool [] once = omega arith
  read-shown_at pool (shard ∷ shards) once = by_test (has_span id shard) refl (read-shown_at pool shards)
    where
      by_test : (b : Bool) → has_span id shard ≡ b
          → (times_owned id shards + times_pooled id pool ≤ 1 → read (shown_at pool (shard_with shards id)) ≡ sum_by (λ s. read (shown_by s)) shards + read (shown_by_pool pool))
          → read (shown_at pool (cond b (Some shard) (shard_with shards id))) ≡ sum_by (λ s. read (shown_by s)) (shard ∷ shards) + read (shown_by_pool pool)
      by_test true has rest =
          let one = times_in-found id shard has in
          omega (
            arith,
            sum_by-cons (λ s. read (shown_by s)) shard shards,
            none-owned shards (omega (arith, times_owned-cons id shard shards)),
            missed_pooled pool (omega (arith, times_owned-cons id shard shards)),
          )
      by_test false none rest =
          let zero_here = times_in-missed id shard none in
          omega (arith, sum_by-cons (λ s. read (shown_by s)) shard shards, missed shard zero_here, rest (omega (arith, times_owned-cons id shard shards)))

-- a shard or a pool that has no span of the key shows nothing of it

pub issued-missed : (shard : ShardState) (key : Key) → times_in key.span shard ≡ 0 → (shown_by shard).is_issued key ≡ false
issued-missed shard key none = ap (issued_by key) (find-none (is_named key.span) (spans_in shard.groups) none)

pub value-missed : (shard : ShardState) (key : Key) → times_in key.span shard ≡ 0 → (shown_by shard).value_of key ≡ None
value-missed shard key none = ap (value_by shard.groups key) (find-none (is_named key.span) (spans_in shard.groups) none)

pub issued-unpooled : (pool : PoolState) (key : Key) → times_pooled key.span pool ≡ 0 → (shown_by_pool pool).is_issued key ≡ false
issued-unpooled pool key none = ap (issued_by key) (find-none (is_named key.span) (spans_in pool.groups) none)

pub value-unpooled : (pool : PoolState) (key : Key) → times_pooled key.span pool ≡ 0 → (shown_by_pool pool).value_of key ≡ None
value-unpooled pool key none = ap (value_by pool.groups key) (find-none (is_named key.span) (spans_in pool.groups) none)

-- the value and the issue of a key, as sums

pub value-sum : (core : CoreState) (key : Key) → times key.span core ≤ 1
    → code ((shown core).value_of key) ≡ sum_by (λ shard. code ((shown_by shard).value_of key)) core.shards + code ((shown_by_pool core.pool).value_of key)
value-sum core key once =
    read-shown_at key.span (λ plain. code (plain.value_of key)) (λ shard none. ap code (value-missed shard key none)) (λ pool none. ap code (value-unpooled pool key none)) core.pool core.shards
    (omega (arith, times-parts key.span core))

-- where no forgotten span has the id, none has given the key out
pub issued-unforgotten : (core : CoreState) (key : Key) → times_forgotten key.span core ≡ 0 → issued_forgotten core key ≡ false
issued-unforgotten core key none = ap (issued_by key) (find-none (is_named key.span) core.forgotten none)

pub issued-sum : (core : CoreState) (key : Key) → times key.span core ≤ 1
    → bit ((shown core).is_issued key) ≡ sum_by (λ shard. bit ((shown_by shard).is_issued key)) core.shards + bit ((shown_by_pool core.pool).is_issued key) + bit (issued_forgotten core key)
issued-sum core key once = by_test (issued_forgotten core key) refl
  where
    shown_there : bit ((shown_at core.pool (shard_with core.shards key.span)).is_issued key)
        ≡ sum_by (λ shard. bit ((shown_by shard).is_issued key)) core.shards + bit ((shown_by_pool core.pool).is_issued key)
    shown_there =
        read-shown_at key.span (λ plain. bit (plain.is_issued key)) (λ shard none. ap bit (issued-missed shard key none)) (λ pool none. ap bit (issued-unpooled pool key none)) core.pool core.shards
        (omega (arith, times-parts key.span core))

    -- one that a forgotten span has given out is none of the others
    by_count : (n : ℕ) → times_forgotten key.span core ≡ n → issued_forgotten core key ≡ true
        → sum_by (λ shard. bit ((shown_by shard).is_issued key)) core.shards + bit ((shown_by_pool core.pool).is_issued key) ≡ 0
    by_count zero none issued = absurd (false≢true (sym (issued-unforgotten core key none) ∙ issued))
    by_count (suc n) some issued =
        omega (
          arith,
          times-parts key.span core,
          none-owned key.span (λ plain. bit (plain.is_issued key)) (λ shard none. ap bit (issued-missed shard key none))
              (λ pool none. ap bit (issued-unpooled pool key none)) core.shards (omega (arith, times-parts key.span core)),
          ap bit (issued-unpooled core.pool key (omega (arith, times-parts key.span core))),
        )

    by_test : (b : Bool) → issued_forgotten core key ≡ b
        → bit (b || (shown_at core.pool (shard_with core.shards key.span)).is_issued key) ≡ sum_by (λ shard. bit ((shown_by shard).is_issued key)) core.shards
        + bit ((shown_by_pool core.pool).is_issued key) + bit b
    by_test true issued = omega (arith, by_count (times_forgotten key.span core) refl issued)
    by_test false none = omega (arith, shown_there)
