-- Sums over the spans of a shard, of the pool and of a core, and how often a span stands there.
use Rattle.std.proofs.Common.{◌≡◌, ℕ, zero, suc, ◌+◌, ◌≤◌, Bool, true, false, cond, List, [], ◌∷◌, ◌++◌, refl, ap, arith, Some, None, slice_get, is_some, find, count_by, sum_by}
use Rattle.std.proofs.lemmas.List.Sums.{sum_by-append}
use Rattle.std.proofs.option.Match.{None-if_not_some}
use Rattle.span.specs.declared.id.SpanId.{SpanId}
use Rattle.span.specs.Ids.{same_span}
use Rattle.span.specs.State.{SpanState}
use Rattle.span.proofs.Ids.{same_id_from_test, test_from_same_id}
use Rattle.shard.specs.State.{ShardState}
use Rattle.groups.specs.Group.{spans_in}
use Rattle.groups.proofs.Lists.{count-append, count-none, find-none}
use Rattle.pool.specs.State.{PoolState}
use Rattle.arena_core.specs.State.{CoreState, all_spans, has_span, shard_spans, shard_with, with_pool, with_shard}
use Rattle.arena_core.proofs.Lists.{count_by-found, count_by-missed, find-counted, sum_by-flat_map, sum_by-set_at}

-- sums over the spans

abbrev pub sum_in : (SpanState → ℕ) → ShardState → ℕ
sum_in w shard = sum_by w (spans_in shard.groups)

abbrev pub sum_pooled : (SpanState → ℕ) → PoolState → ℕ
sum_pooled w pool = sum_by w (spans_in pool.groups)

abbrev pub sum_all : (SpanState → ℕ) → CoreState → ℕ
sum_all w core = sum_by w (all_spans core)

pub sum_all-parts : (w : SpanState → ℕ) (core : CoreState) → sum_all w core ≡ sum_by (sum_in w) core.shards + sum_pooled w core.pool + sum_by w core.forgotten
sum_all-parts w core =
    omega (
      arith,
      sum_by-append w (shard_spans core.shards) (spans_in core.pool.groups ++ core.forgotten),
      sum_by-append w (spans_in core.pool.groups) core.forgotten,
      sum_by-flat_map w (λ (shard : ShardState). spans_in shard.groups) core.shards,
    )

pub sum_all-with_shard : (w : SpanState → ℕ) (core : CoreState) (number : ℕ) (before after : ShardState) → slice_get core.shards number ≡ Some before
    → sum_all w (with_shard core number after) + sum_in w before ≡ sum_all w core + sum_in w after
sum_all-with_shard w core number before after here =
    omega (arith, sum_all-parts w core, sum_all-parts w (with_shard core number after), sum_by-set_at (sum_in w) core.shards number before after here)

pub sum_all-with_pool : (w : SpanState → ℕ) (core : CoreState) (pool : PoolState) → sum_all w (with_pool core pool) + sum_pooled w core.pool ≡ sum_all w core + sum_pooled w pool
sum_all-with_pool w core pool = omega (arith, sum_all-parts w core, sum_all-parts w (with_pool core pool))

-- how often a span stands there

-- the span has the id
abbrev pub is_named : SpanId → SpanState → Bool
is_named id span = same_span span.id id

-- the same as a count
abbrev pub named : SpanId → SpanState → ℕ
named id span = cond {A = ℕ} (is_named id span) 1 0

abbrev pub times_in : SpanId → ShardState → ℕ
times_in id shard = count_by (is_named id) (spans_in shard.groups)

abbrev pub times_pooled : SpanId → PoolState → ℕ
times_pooled id pool = count_by (is_named id) (spans_in pool.groups)

-- how often the span stands in the shards
abbrev pub times_owned : SpanId → List ShardState → ℕ
times_owned id shards = count_by (is_named id) (shard_spans shards)

-- how often the span was forgotten
abbrev pub times_forgotten : SpanId → CoreState → ℕ
times_forgotten id core = count_by (is_named id) core.forgotten

-- how often the span stands anywhere
abbrev pub times : SpanId → CoreState → ℕ
times id core = count_by (is_named id) (all_spans core)

pub times-parts : (id : SpanId) (core : CoreState) → times id core ≡ times_owned id core.shards + times_pooled id core.pool + times_forgotten id core
times-parts id core =
    omega (arith, count-append (is_named id) (shard_spans core.shards) (spans_in core.pool.groups ++ core.forgotten), count-append (is_named id) (spans_in core.pool.groups) core.forgotten)

pub times_owned-cons : (id : SpanId) (shard : ShardState) (shards : List ShardState) → times_owned id (shard ∷ shards) ≡ times_in id shard + times_owned id shards
times_owned-cons id shard shards = count-append (is_named id) (spans_in shard.groups) (shard_spans shards)

pub same_span-self : (id : SpanId) → same_span id id ≡ true
same_span-self id = test_from_same_id id id refl

pub times_in-missed : (id : SpanId) (shard : ShardState) → has_span id shard ≡ false → times_in id shard ≡ 0
times_in-missed id shard none = count_by-missed (is_named id) (spans_in shard.groups) (None-if_not_some _ none)

pub has_span-uncounted : (id : SpanId) (shard : ShardState) → times_in id shard ≡ 0 → has_span id shard ≡ false
has_span-uncounted id shard none = ap is_some (find-none (is_named id) (spans_in shard.groups) none)

pub times_in-found : (id : SpanId) (shard : ShardState) → has_span id shard ≡ true → 1 ≤ times_in id shard
times_in-found id shard has = count_by-found (is_named id) (spans_in shard.groups) has

pub has_span-counted : (id : SpanId) (shard : ShardState) → 1 ≤ times_in id shard → has_span id shard ≡ true
has_span-counted id shard some = find-counted (is_named id) (spans_in shard.groups) some

-- one id is as good as another of the same numbers
pub find-same : (a b : SpanId) (spans : List SpanState) → same_span a b ≡ true → find (is_named a) spans ≡ find (is_named b) spans
find-same a b spans same = ap (λ (id : SpanId). find (is_named id) spans) (same_id_from_test a b same)

-- a shard's spans are among those of all shards
pub times_in-le : (id : SpanId) (shards : List ShardState) (number : ℕ) (shard : ShardState) → slice_get shards number ≡ Some shard → times_in id shard ≤ times_owned id shards
times_in-le id [] number shard here = absurd cc
times_in-le id (first ∷ shards) zero shard here =
    let same : first ≡ shard = cc in
    omega (arith, times_owned-cons id first shards, ap (times_in id) same)
times_in-le id (first ∷ shards) (suc number) shard here = omega (arith, times_owned-cons id first shards, times_in-le id shards number shard here)

-- where the span stands once at most, the search finds the shard that has it
pub shard_with-here : (id : SpanId) (shards : List ShardState) (number : ℕ) (shard : ShardState) → slice_get shards number ≡ Some shard → has_span id shard ≡ true → times_owned id shards ≤ 1
    → shard_with shards id ≡ Some shard
shard_with-here id [] number shard here has once = absurd cc
shard_with-here id (first ∷ shards) zero shard here has once =
    let same : first ≡ shard = cc in
    rw (same, has) refl
shard_with-here id (first ∷ shards) (suc number) shard here has once = by_test (has_span id first) refl (shard_with-here id shards number shard here has)
  where
    by_test : (b : Bool) → has_span id first ≡ b → (times_owned id shards ≤ 1 → shard_with shards id ≡ Some shard) → cond b (Some first) (shard_with shards id) ≡ Some shard
    by_test true e rest = absurd (omega (arith, times_owned-cons id first shards, times_in-found id first e, times_in-found id shard has, times_in-le id shards number shard here))
    by_test false e rest = rest (omega (arith, times_owned-cons id first shards))

-- where the span stands in no shard, the search finds none
pub shard_with-nowhere : (id : SpanId) (shards : List ShardState) → times_owned id shards ≡ 0 → shard_with shards id ≡ None
shard_with-nowhere id shards none =
    find-none (has_span id) shards (count-none (has_span id) shards (λ number shard here. has_span-uncounted id shard (omega (arith, times_in-le id shards number shard here))))
