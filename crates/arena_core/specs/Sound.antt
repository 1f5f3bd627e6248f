-- When a core is sound.
use Rattle.std.specs.Prelude.{◌≡◌, ℕ, ◌≤◌, nat_lt, if◌then◌else◌, List, length, slice_get, Some, count_by}
use Rattle.std.specs.FinSet as set
use Rattle.span.specs.declared.id.SpanId.{SpanId}
use Rattle.span.specs.Ids.{same_span}
use Rattle.span.specs.Log.{IsLegal, live_slots}
use Rattle.span.specs.State.{SpanState}
use Rattle.shard.specs.Sound.{IsSound as IsSoundShard}
use Rattle.shard.specs.State.{ShardState}
use Rattle.pool.specs.Sound.{IsSound as IsSoundPool}
use Rattle.arena_core.specs.Plan.{HasSoundPlan}
use Rattle.arena_core.specs.Rings.{RingState, ring_at}
use Rattle.marks.specs.Numbers.{Limits, AreWithin}
use Rattle.arena_core.specs.State.{CoreState, all_spans, opened_by}

-- what is so of a span that was forgotten: its log is legal, and leaves no slot live
pub record IsForgotten (span : SpanState) : Type 0 where
  pub legal : IsLegal span.gens span.log
  pub none_live : live_slots span.log ≡ set.empty

-- the shard has this number and the limits of the core, and is sound
pub record IsSoundAt (limits : Limits) (number : ℕ) (shard : ShardState) : Type 0 where
  pub number_is : shard.number ≡ number
  pub page_limit_is : shard.page_limit ≡ limits.page_limit
  pub span_limit_is : shard.span_limit ≡ limits.span_limit
  pub slot_limit_is : shard.slot_limit ≡ limits.slot_limit
  pub gens_is : shard.gens ≡ limits.gens
  pub sound : IsSoundShard shard

-- the numbers are within their ranges, the shards are those of the numbers, and each of them and
-- the pool are sound
pub record HasSoundGroups (core : CoreState) : Type 0 where
  pub within : AreWithin core.limits
  pub count : length core.shards ≡ core.limits.shards
  pub shards : (number : ℕ) (shard : ShardState) → slice_get core.shards number ≡ Some shard
      → IsSoundAt core.limits number shard
  pub pool : IsSoundPool core.pool
  -- each slot of each span is given generations up to the core's greatest
  pub gens : (place : ℕ) (span : SpanState) → slice_get (all_spans core) place ≡ Some span
      → span.gens ≡ core.limits.gens
  -- each opened span stands in exactly one group, of one shard or of the pool, or was forgotten
  -- once, and no other span stands anywhere
  pub once : (id : SpanId) → count_by (λ span. same_span span.id id) (all_spans core)
      ≡ (if nat_lt id.serial (opened_by core.shards id.shard) then 1 else 0)
  -- nothing of a span that was forgotten is live
  pub forgotten : (place : ℕ) (span : SpanState) → slice_get core.forgotten place ≡ Some span
      → IsForgotten span

-- there is one ring from each worker to each shard, of the core's capacity, and it holds no more
-- keys than that
pub record AreRings (limits : Limits) (rings : List (List RingState)) : Type 0 where
  pub shards : length rings ≡ limits.shards
  pub workers : (shard : ℕ) (row : List RingState) → slice_get rings shard ≡ Some row
      → length row ≡ limits.shards
  pub each : (worker shard : ℕ) (ring : RingState) → ring_at rings worker shard ≡ Some ring
      → (ring.capacity ≡ limits.ring_capacity) × (length ring.keys ≤ limits.ring_capacity)

-- the groups are sound, the closed ones are those that the open plan plans, and the rings are those
-- of the numbers
pub record IsSound (core : CoreState) : Type 0 where
  pub groups : HasSoundGroups core
  pub plan : HasSoundPlan core
  pub rings : AreRings core.limits core.rings
