-- The plain map that a core shows, after a change of one of its owners: a shard or the pool.
use Rattle.std.proofs.Common.{◌≡◌, ℕ, ◌+◌, ◌≤◌, Bool, true, false, cond, ◌||◌, refl, sym, ap, ◌∙◌, arith, Some, None, slice_get, is_some, eq-eqb, sum_by}
use Rattle.std.proofs.lemmas.Bool.{and_parts, true_from_ne_false, true≢false}
use Rattle.std.proofs.option.Match.{None-if_not_some}
use Rattle.span.specs.declared.id.SpanId.{SpanId}
use Rattle.span.specs.declared.key.Key.{Key}
use Rattle.span.specs.Ids.{same_span}
use Rattle.span.specs.Log.{Value}
use Rattle.span.specs.PlainMap.{PlainMap, same_key, with_put, with_value, without}
use Rattle.shard.specs.Shown.{shown as shown_by}
use Rattle.groups.specs.Shown.{span_named}
use Rattle.shard.specs.State.{ShardState}
use Rattle.groups.specs.Group.{spans_in}
use Rattle.groups.proofs.Logged.{same_plain_map}
use Rattle.pool.specs.Shown.{shown as shown_by_pool}
use Rattle.pool.specs.State.{PoolState}
use Rattle.arena_core.specs.Rings.{pending_at}
use Rattle.arena_core.specs.State.{CoreState, has_span, issued_forgotten, shard_with, shown, shown_at, with_pool, with_shard}
use Rattle.arena_core.proofs.Lists.{count_by-found, count_by-missed, find-counted, sum_by-set_at}
use Rattle.marks.proofs.Lists.{slice_get-set_same}
use Rattle.arena_core.proofs.Owners.{bit, bit-injective, code, code-injective, issued-missed, issued-sum, issued-unforgotten, issued-unpooled, value-missed, value-sum, value-unpooled}
use Rattle.arena_core.proofs.Spans.{find-same, is_named, same_span-self, shard_with-here, shard_with-nowhere, times, times-parts, times_forgotten, times_in-found, times_in-le, times_in-missed, times_pooled}
use Rattle.std.proofs.lemmas.Option.{none-some}

pub same_key-self : (key : Key) → same_key key key ≡ true
same_key-self key = rw (same_span-self key.span, eq-eqb key.slot key.slot refl, eq-eqb key.generation key.generation refl) refl

-- one owner of a core, which showed a, shows b, and has these spans then; all others are as they were
pub record IsLocal (old new : CoreState) (a b : PlainMap) (has : SpanId → Bool) : Type 0 where
  pub rings : new.rings ≡ old.rings
  pub alike : (x y : SpanId) → same_span x y ≡ true → has x ≡ has y
  pub value : (key : Key) → code ((shown new).value_of key) + code (a.value_of key) ≡ code ((shown old).value_of key) + code (b.value_of key)
  pub issued : (key : Key) → bit ((shown new).is_issued key) + bit (a.is_issued key) ≡ bit ((shown old).is_issued key) + bit (b.is_issued key)
  pub value_here : (key : Key) → has key.span ≡ true → (shown new).value_of key ≡ b.value_of key
  pub issued_here : (key : Key) → has key.span ≡ true → (shown new).is_issued key ≡ b.is_issued key
  pub value_only : (key : Key) → has key.span ≡ false → b.value_of key ≡ None
  pub issued_only : (key : Key) → has key.span ≡ false → b.is_issued key ≡ false

module _ (old new : CoreState) (a b : PlainMap) (has : SpanId → Bool) (local : IsLocal old new a b has) (key : Key) where
  -- the key has the value then, and each other key what it had
  module _ (value : Value) (values : (other : Key) → b.value_of other ≡ cond (same_key key other) (Some value) (a.value_of other)) where
    value_set : (other : Key) (s : Bool) → same_key key other ≡ s → (shown new).value_of other ≡ cond s (Some value) ((shown old).value_of other)
    value_set other true same =
        let some : b.value_of other ≡ Some value = values other ∙ ap (λ s. cond s (Some value) (a.value_of other)) same in
        local.value_here other (true_from_ne_false (has other.span) (λ none. none-some _ (sym (local.value_only other none) ∙ some))) ∙ some
    value_set other false differ =
        let kept : b.value_of other ≡ a.value_of other = values other ∙ ap (λ s. cond s (Some value) (a.value_of other)) differ in
        code-injective _ _ (omega (arith, local.value other, ap code kept))

  -- no key is issued
  issued_still : ((other : Key) → b.is_issued other ≡ a.is_issued other) → (other : Key) → (shown new).is_issued other ≡ (shown old).is_issued other
  issued_still kept other = bit-injective _ _ (omega (arith, local.issued other, ap bit (kept other)))

  module _ (value : Value) (puts : b ≡ with_put a key value) where
    put_issued : (other : Key) (s : Bool) → same_key key other ≡ s → (shown new).is_issued other ≡ (s || (shown old).is_issued other)
    put_issued other true same =
        let some : b.is_issued other ≡ true = ap (λ (m : PlainMap). m.is_issued other) puts ∙ ap (λ s. s || a.is_issued other) same in
        local.issued_here other (true_from_ne_false (has other.span) (λ none. true≢false (sym some ∙ local.issued_only other none))) ∙ some
    put_issued other false differ =
        let kept : b.is_issued other ≡ a.is_issued other = ap (λ (m : PlainMap). m.is_issued other) puts ∙ ap (λ s. s || a.is_issued other) differ in
        bit-injective _ _ (omega (arith, local.issued other, ap bit kept))

    pub shown-put : shown new ≡ with_put (shown old) key value
    shown-put = same_plain_map _ _ (λ other. put_issued other _ refl) (λ other. value_set value (λ it. ap (λ (m : PlainMap). m.value_of it) puts) other _ refl)
        (λ worker shard. ap (λ r. pending_at r worker shard) local.rings)

    pub fresh-put : a.is_issued key ≡ false → (shown old).is_issued key ≡ false
    fresh-put fresh =
        let now : (shown new).is_issued key ≡ true = put_issued key true (same_key-self key) in
        let there : b.is_issued key ≡ true = ap (λ (m : PlainMap). m.is_issued key) puts ∙ ap (λ s. s || a.is_issued key) (same_key-self key) in
        bit-injective _ false (omega (arith, local.issued key, ap bit now, ap bit there, ap bit fresh))

  pub shown-set : (value : Value) → b ≡ with_value a key value → shown new ≡ with_value (shown old) key value
  shown-set value sets = same_plain_map _ _ (issued_still (λ other. ap (λ (m : PlainMap). m.is_issued other) sets))
      (λ other. value_set value (λ it. ap (λ (m : PlainMap). m.value_of it) sets) other _ refl)
      (λ worker shard. ap (λ r. pending_at r worker shard) local.rings)

  module _ (here : has key.span ≡ true) (frees : b ≡ without a key) where
    free_value : (other : Key) (s : Bool) → same_key key other ≡ s → (shown new).value_of other ≡ cond s None ((shown old).value_of other)
    free_value other true same =
        local.value_here other (sym (local.alike key.span other.span (and_parts _ _ same).0) ∙ here)
        ∙ ap (λ (m : PlainMap). m.value_of other) frees
        ∙ ap (λ s. cond s None (a.value_of other)) same
    free_value other false differ =
        let kept : b.value_of other ≡ a.value_of other = ap (λ (m : PlainMap). m.value_of other) frees ∙ ap (λ s. cond s None (a.value_of other)) differ in
        code-injective _ _ (omega (arith, local.value other, ap code kept))

    pub shown-free : shown new ≡ without (shown old) key
    shown-free = same_plain_map _ _ (issued_still (λ other. ap (λ (m : PlainMap). m.is_issued other) frees)) (λ other. free_value other _ refl)
        (λ worker shard. ap (λ r. pending_at r worker shard) local.rings)

    -- what the owner showed under the key, the core showed
    pub value-before : (shown old).value_of key ≡ a.value_of key
    value-before =
        let now : (shown new).value_of key ≡ None = free_value key true (same_key-self key) in
        let gone : b.value_of key ≡ None = ap (λ (m : PlainMap). m.value_of key) frees ∙ ap (λ s. cond s None (a.value_of key)) (same_key-self key) in
        code-injective _ _ (omega (arith, local.value key, ap code now, ap code gone))

-- an owner that shows what it showed leaves the map as it was
pub shown-unchanged : (old new : CoreState) (a b : PlainMap) (has : SpanId → Bool) → IsLocal old new a b has → b ≡ a → shown new ≡ shown old
shown-unchanged old new a b has local same = same_plain_map _ _
    (λ other. bit-injective _ _ (omega (arith, local.issued other, ap (λ (m : PlainMap). bit (m.is_issued other)) same)))
    (λ other. code-injective _ _ (omega (arith, local.value other, ap (λ (m : PlainMap). code (m.value_of other)) same)))
    (λ worker shard. ap (λ r. pending_at r worker shard) local.rings)

-- the owners

-- what is read of the maps that the shards and the pool show
abbrev sum_of : (PlainMap → ℕ) → CoreState → ℕ
sum_of read core = sum_by (λ shard. read (shown_by shard)) core.shards + read (shown_by_pool core.pool)

-- the pool has the span
abbrev pub has_pooled : SpanId → PoolState → Bool
has_pooled id pool = is_some (span_named (spans_in pool.groups) id)

pub has_pooled-counted : (id : SpanId) (pool : PoolState) → 1 ≤ times_pooled id pool → has_pooled id pool ≡ true
has_pooled-counted id pool some = find-counted (is_named id) (spans_in pool.groups) some

module _ (old new : CoreState) (once : (id : SpanId) → times id old ≤ 1) (once_new : (id : SpanId) → times id new ≤ 1) where
  pub IsLocal-shard : (number : ℕ) (before after : ShardState) → slice_get old.shards number ≡ Some before → new ≡ with_shard old number after
      → IsLocal old new (shown_by before) (shown_by after) (λ id. has_span id after)
  IsLocal-shard number before after here is = record {
    rings = ap (λ (c : CoreState). c.rings) is;
    alike = λ x y same. ap is_some (find-same x y (spans_in after.groups) same);
    value = λ key. omega (
      arith,
      value-sum old key (once key.span),
      value-sum new key (once_new key.span),
      ap (sum_of (λ plain. code (plain.value_of key))) is,
      sum_by-set_at (λ shard. code ((shown_by shard).value_of key)) old.shards number before after here,
    );
    issued = λ key.
        let gone : issued_forgotten new key ≡ issued_forgotten old key = ap (λ (c : CoreState). issued_forgotten c key) is in
        omega (
          arith,
          ap bit gone,
          issued-sum old key (once key.span),
          issued-sum new key (once_new key.span),
          ap (sum_of (λ plain. bit (plain.is_issued key))) is,
          sum_by-set_at (λ shard. bit ((shown_by shard).is_issued key)) old.shards number before after here,
        );
    value_here = λ key has. ap (λ o. (shown_at new.pool o).value_of key) (found key.span has);
    issued_here = λ key has.
        let none : issued_forgotten new key ≡ false = issued-unforgotten new key (unforgotten key.span has) in
        ap (λ b. b || (shown_at new.pool (shard_with new.shards key.span)).is_issued key) none ∙ ap (λ o. (shown_at new.pool o).is_issued key) (found key.span has);
    value_only = λ key none. value-missed after key (times_in-missed key.span after none);
    issued_only = λ key none. issued-missed after key (times_in-missed key.span after none);
  }
    where
      here_now : slice_get new.shards number ≡ Some after
      here_now = ap (λ (c : CoreState). slice_get c.shards number) is ∙ slice_get-set_same old.shards number before after here

      unforgotten : (id : SpanId) → has_span id after ≡ true → times_forgotten id new ≡ 0
      unforgotten id has = omega (arith, times-parts id new, once_new id, times_in-found id after has, times_in-le id new.shards number after here_now)

      found : (id : SpanId) → has_span id after ≡ true → shard_with new.shards id ≡ Some after
      found id has =
          shard_with-here id new.shards number after (ap (λ (c : CoreState). slice_get c.shards number) is ∙ slice_get-set_same old.shards number before after here) has
          (omega (arith, times-parts id new, once_new id))

  pub IsLocal-pool : (pool : PoolState) → new ≡ with_pool old pool → IsLocal old new (shown_by_pool old.pool) (shown_by_pool pool) (λ id. has_pooled id pool)
  IsLocal-pool pool is = record {
    rings = ap (λ (c : CoreState). c.rings) is;
    alike = λ x y same. ap is_some (find-same x y (spans_in pool.groups) same);
    value = λ key. omega (arith, value-sum old key (once key.span), value-sum new key (once_new key.span), ap (sum_of (λ plain. code (plain.value_of key))) is);
    issued = λ key.
        let gone : issued_forgotten new key ≡ issued_forgotten old key = ap (λ (c : CoreState). issued_forgotten c key) is in
        omega (arith, ap bit gone, issued-sum old key (once key.span), issued-sum new key (once_new key.span), ap (sum_of (λ plain. bit (plain.is_issued key))) is);
    value_here = λ key has. ap (λ o. (shown_at new.pool o).value_of key) (found key.span has) ∙ ap (λ (c : CoreState). (shown_by_pool c.pool).value_of key) is;
    issued_here = λ key has.
        let none : issued_forgotten new key ≡ false = issued-unforgotten new key (unforgotten key.span has) in
        ap (λ b. b || (shown_at new.pool (shard_with new.shards key.span)).is_issued key) none
        ∙ ap (λ o. (shown_at new.pool o).is_issued key) (found key.span has)
        ∙ ap (λ (c : CoreState). (shown_by_pool c.pool).is_issued key) is;
    value_only = λ key none. value-unpooled pool key (count_by-missed (is_named key.span) (spans_in pool.groups) (None-if_not_some _ none));
    issued_only = λ key none. issued-unpooled pool key (count_by-missed (is_named key.span) (spans_in pool.groups) (None-if_not_some _ none));
  }
    where
      unforgotten : (id : SpanId) → is_some (span_named (spans_in pool.groups) id) ≡ true → times_forgotten id new ≡ 0
      unforgotten id has =
          omega (arith, times-parts id new, once_new id, ap (λ (c : CoreState). times_pooled id c.pool) is, count_by-found (is_named id) (spans_in pool.groups) has)

      found : (id : SpanId) → is_some (span_named (spans_in pool.groups) id) ≡ true → shard_with new.shards id ≡ None
      found id has =
          shard_with-nowhere id new.shards
          (omega (arith, times-parts id new, once_new id, ap (λ (c : CoreState). times_pooled id c.pool) is, count_by-found (is_named id) (spans_in pool.groups) has))
