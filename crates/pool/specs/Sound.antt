-- When the pool is sound: the parts of soundness that speak of the pool alone.
use Rattle.std.specs.Prelude.{◌≡◌, ◌≢◌, ℕ, ◌≤◌, IsSome, Some, slice_get, count_by}
use Rattle.std.specs.FinSet as set
use Rattle.span.specs.declared.id.SpanId.{SpanId}
use Rattle.span.specs.Ids.{same_span}
use Rattle.groups.specs.Sound.{AreSoundGroups}
use Rattle.groups.specs.Spans.{union_of}
use Rattle.pool.specs.State.{PoolState, PooledState}
use Rattle.groups.specs.Group.{Ascend, spans_in, spans_of}

pub record IsSound (pool : PoolState) : Type 0 where
  -- groups stand by ascending head
  pub ascending : Ascend pool.groups
  pub groups : AreSoundGroups pool.groups
  -- where a group has a page, some slot is live
  pub in_use : (index : ℕ) (group : PooledState) → slice_get pool.groups index ≡ Some group
      → IsSome group.page → union_of (spans_of group) ≢ set.empty
  -- no span stands twice
  pub once : (id : SpanId) → count_by (λ span. same_span span.id id) (spans_in pool.groups) ≤ 1
