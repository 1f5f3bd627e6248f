-- What contracts see of a core, and the plain map that it shows.
use Rattle.std.specs.Prelude.{◌≡◌, ℕ, ◌+◌, ◌||◌, Bool, List, [], ◌++◌, map, length, find, is_some, slice_get, slice_set, count_by, sum_by, if◌then◌else◌, Option, Some, None}
use Rattle.std.specs.List.{flat_map, range_with_len}
use Rattle.span.specs.declared.id.SpanId.{SpanId}
use Rattle.span.specs.declared.key.Key.{Key}
use Rattle.span.specs.PlainMap.{PlainMap, same_key}
use Rattle.span.specs.State.{SpanState}
use Rattle.shard.specs.Shown.{shown as shown_by}
use Rattle.groups.specs.Shown.{issued_by, span_named}
use Rattle.shard.specs.State.{ShardState, empty_with}
use Rattle.groups.specs.Group.{live_in, paged_in, spans_in}
use Rattle.pool.specs.Shown.{shown as shown_by_pool}
use Rattle.pool.specs.State.{PoolState, new_pool, paged_groups}
use Rattle.marks.specs.Numbers.{Limits}
use Rattle.marks.specs.Plans.{OpenPlan}
use Rattle.arena_core.specs.Rings.{RingState, new_rings, pending_at}

-- a core: the numbers of the product, the shards by their numbers, the pool of the groups whose
-- shards have ended, the open plan, if there is one, the rings of keys that wait to be freed, by
-- shard, then by worker, and the spans that were forgotten, of which no memory is kept
pub record CoreState : Type 0 where
  pub limits : Limits
  pub shards : List ShardState
  pub pool : PoolState
  pub plan : Option OpenPlan
  pub rings : List (List RingState)
  pub forgotten : List SpanState

-- a shard that has opened no span
abbrev pub new_shard : ℕ → ℕ → ℕ → ℕ → ℕ → ShardState
new_shard page_limit span_limit slot_limit gens number =
    empty_with number page_limit span_limit slot_limit gens

-- a core of new shards, one for each number, an empty pool, no plan, and empty rings, in which
-- nothing was forgotten
abbrev pub new_core : Limits → CoreState
new_core limits = record {
  limits = limits;
  shards = map (new_shard limits.page_limit limits.span_limit limits.slot_limit limits.gens)
      (range_with_len 0 limits.shards);
  pool = new_pool;
  plan = None;
  rings = new_rings limits.shards limits.ring_capacity;
  forgotten = [];
}

-- the core with another shard at this number
abbrev pub with_shard : CoreState → ℕ → ShardState → CoreState
with_shard core number shard = record core { shards = slice_set core.shards number shard }

-- the core with another pool
abbrev pub with_pool : CoreState → PoolState → CoreState
with_pool core pool = record core { pool = pool }

-- the core with another plan, or none
abbrev pub with_plan : CoreState → Option OpenPlan → CoreState
with_plan core plan = record core { plan = plan }

-- the core with other rings
abbrev pub with_rings : CoreState → List (List RingState) → CoreState
with_rings core rings = record core { rings = rings }

-- the spans of all shards, in order
abbrev pub shard_spans : List ShardState → List SpanState
shard_spans shards = flat_map (λ shard. spans_in shard.groups) shards

-- the spans of all shards, then those of the pool, and then those that were forgotten
abbrev pub all_spans : CoreState → List SpanState
all_spans core = shard_spans core.shards ++ (spans_in core.pool.groups ++ core.forgotten)

-- one of the shard's groups has the span
abbrev pub has_span : SpanId → ShardState → Bool
has_span id shard = is_some (span_named (spans_in shard.groups) id)

-- the shard that has the span, which need not be the one that opened it
abbrev pub shard_with : List ShardState → SpanId → Option ShardState
shard_with shards id = find (has_span id) shards

-- how many spans a shard has opened, if there is one
abbrev pub opened_of : Option ShardState → ℕ
opened_of None = 0
opened_of (Some shard) = shard.opened

-- how many spans the shard of this number has opened
abbrev pub opened_by : List ShardState → ℕ → ℕ
opened_by shards number = opened_of (slice_get shards number)

-- the plain map of the shard, or where there is none, of the pool
abbrev pub shown_at : PoolState → Option ShardState → PlainMap
shown_at pool None = shown_by_pool pool
shown_at pool (Some shard) = shown_by shard

-- a span that was forgotten gave the key out
abbrev pub issued_forgotten : CoreState → Key → Bool
issued_forgotten core key = issued_by key (span_named core.forgotten key.span)

-- the plain map that the core shows: each key is that of the shard that has its span, or else of
-- the pool, keys of forgotten spans stay issued, and the rings hold what is pending
abbrev pub shown : CoreState → PlainMap
shown core = record {
  is_issued = λ key. issued_forgotten core key || (shown_at core.pool
      (shard_with core.shards key.span)).is_issued key;
  value_of = λ key. (shown_at core.pool (shard_with core.shards key.span)).value_of key;
  pending = λ worker shard. pending_at core.rings worker shard;
}

-- how many groups of the shards and of the pool have a page
abbrev pub pages : CoreState → ℕ
pages core = sum_by (λ shard. length (paged_in shard.groups)) core.shards
    + length (paged_groups core.pool)

-- how many keys are live in the shard
abbrev pub shard_keys : ShardState → ℕ
shard_keys shard = live_in shard.groups

-- how many keys are live in the shards and the pool
abbrev pub live_keys : CoreState → ℕ
live_keys core = sum_by shard_keys core.shards + live_in core.pool.groups

-- these keys are those that have a value in the map, each once
abbrev pub AreLive : List Key → PlainMap → Type 0
AreLive keys plain = (key : Key) → count_by (same_key key) keys
    ≡ (if is_some (plain.value_of key) then 1 else 0)

-- that many keys have a value in the map
abbrev pub HasKeys : PlainMap → ℕ → Type 0
HasKeys plain count = (keys : List Key) × AreLive keys plain × (count ≡ length keys)
