-- A pool stays sound where a group leaves it, and what leaves is sound.
use Rattle.std.proofs.Common.{◌≡◌, ℕ, ◌+◌, ◌<◌, Some, slice_get, arith, remove}
use Rattle.span.specs.Ids.{rank, same_span}
use Rattle.span.specs.State.{SpanState}
use Rattle.span.specs.declared.id.SpanId.{SpanId}
use Rattle.groups.specs.Group.{spans_in, spans_of}
use Rattle.groups.specs.Sound.{IsSoundGroup}
use Rattle.groups.specs.Whole.{IsSoundWhole, whole_of}
use Rattle.groups.proofs.GroupSpans.{count-spans_remove, times}
use Rattle.groups.proofs.Removed.{before-remove, pairs-remove}
use Rattle.pool.specs.Sound.{IsSound}
use Rattle.pool.specs.State.{PoolState, PooledState}

module _ (old : PoolState) (sound : IsSound old) (index : ℕ) (group : PooledState) (here : slice_get old.groups index ≡ Some group) where
  abbrev pub left_over : PoolState
  left_over = record old { groups = remove old.groups index }

  its : IsSoundGroup group
  its = sound.groups index group here

  -- the group's spans are those that are fewer
  fewer : (id : SpanId) → times id (spans_in old.groups) ≡ times id (spans_of group) + times id (spans_in (remove old.groups index))
  fewer id = count-spans_remove spans_of (λ (s : SpanState). same_span s.id id) old.groups index group here

  pub IsSound-left_over : IsSound left_over
  IsSound-left_over = record {
    ascending = pairs-remove (λ (a b : PooledState). rank a.head.id < rank b.head.id) old.groups index sound.ascending;
    groups = λ at g there. let before = before-remove old.groups index at g there in sound.groups before.0 g before.2;
    in_use = λ at g there. let before = before-remove old.groups index at g there in sound.in_use before.0 g before.2;
    once = λ id. omega (arith, sound.once id, fewer id);
  }

  pub IsSoundWhole-whole_of : IsSoundWhole (whole_of group)
  IsSoundWhole-whole_of = record {
    apart = its.apart;
    once = λ id. omega (arith, sound.once id, fewer id);
    legal = its.legal;
    classes = its.classes;
    words = its.page;
  }
