-- A pool stays sound where a sound group comes in at the place of its head.
use Rattle.std.proofs.Common.{◌≡◌, ℕ, ◌<◌, ◌≤◌, Some, slice_get, arith, rules, ◌≢◌, IsSome, insert}
use Rattle.std.specs.FinSet as set
use Rattle.span.specs.Ids.{rank, same_span}
use Rattle.span.specs.State.{SpanState}
use Rattle.span.specs.declared.id.SpanId.{SpanId}
use Rattle.groups.specs.Group.{IsElsewhere, IsPlaceFor, spans_of}
use Rattle.groups.specs.Sound.{IsSoundGroup}
use Rattle.groups.specs.Spans.{union_of}
use Rattle.groups.proofs.GroupSpans.{count-spans_insert, times, times-together}
use Rattle.groups.proofs.Lists.{cases-insert, pairs-insert}
use Rattle.pool.specs.Sound.{IsSound}
use Rattle.pool.specs.State.{PoolState, PooledState}

module _ (old : PoolState) (sound : IsSound old) (group : PooledState) (index : ℕ) (place : IsPlaceFor old.groups group.head.id index)
    (here : IsSoundGroup group) (in_use : IsSome group.page → union_of (spans_of group) ≢ set.empty) (once_here : (id : SpanId) → times id (spans_of group) ≤ 1)
    (elsewhere : (at : ℕ) (span : SpanState) → slice_get (spans_of group) at ≡ Some span → IsElsewhere old.groups span.id) where
  -- what holds of each group, and of the one that came, holds of each afterwards
  each_now : (P : PooledState → Type 0) → ((at : ℕ) (g : PooledState) → slice_get old.groups at ≡ Some g → P g) → P group → (at : ℕ) (g : PooledState)
      → slice_get (insert old.groups index group) at ≡ Some g → P g
  each_now P each came at g there = search (rules, cases-insert)

  -- whatever room is left
  pub IsSound-inserted : (groups spans : ℕ) → IsSound (record old { groups = insert old.groups index group; group_room = groups; span_room = spans })
  IsSound-inserted groups spans = record {
    ascending = pairs-insert (λ (a b : PooledState). rank a.head.id < rank b.head.id) old.groups index group place.within sound.ascending place.before place.after;
    groups = each_now IsSoundGroup sound.groups here;
    in_use = each_now (λ (g : PooledState). IsSome g.page → union_of (spans_of g) ≢ set.empty) sound.in_use in_use;
    once = λ id. omega (
      arith,
      times-together spans_of old.groups (spans_of group) sound.once once_here elsewhere id,
      count-spans_insert spans_of (λ (s : SpanState). same_span s.id id) old.groups index group,
    );
  }
