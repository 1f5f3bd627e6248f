-- The groups of a shard on their way to the pool, one after another, the last of them first.
use Rattle.std.proofs.Common.{◌≡◌, ℕ, ◌+◌, List, [], ◌∷◌, ◌++◌, append_assoc, length, Some, map, slice_get, ap, sym, subst, ◌∙◌, refl, arith, rules, append-nil, length-append}
use Rattle.std.proofs.lemmas.Grind.{flat_map-append}
use Rattle.span.specs.Ids.{same_span}
use Rattle.span.specs.State.{SpanState}
use Rattle.span.specs.declared.id.SpanId.{SpanId}
use Rattle.span.proofs.Ids.{test_from_same_id}
use Rattle.groups.specs.Group.{IsElsewhere, spans_in, spans_of}
use Rattle.groups.specs.Whole.{WholeState, spans_moved, whole_of}
use Rattle.groups.proofs.GroupSpans.{elsewhere-times, times}
use Rattle.groups.proofs.Lists.{count-append, count-some}
use Rattle.shard.specs.Group.{GroupState}
use Rattle.shard.specs.Moves.{LiftsLast}
use Rattle.shard.specs.Sound.{IsSound as IsSoundShard}
use Rattle.shard.specs.State.{ShardState}
use Rattle.pool.specs.Calls.{MayTakeIn, TakesAll, TakesIn}
use Rattle.pool.specs.Handover.{AreApart, HasRoomFor}
use Rattle.pool.specs.Sound.{IsSound}
use Rattle.pool.specs.State.{PoolState}
use Rattle.pool.proofs.TakenIn.{times-TakesIn}

-- of the groups the later ones have come, and the others are left
pub record IsMoving (pool₀ : PoolState) (shard₀ : ShardState) (pool : PoolState) (shard : ShardState) : Type 0 where
  pub gone : List GroupState
  pub groups : shard₀.groups ≡ shard.groups ++ gone
  pub moved : TakesAll pool₀ (map whole_of gone) pool
  pub sound : IsSound pool
  pub sound_shard : IsSoundShard shard
  pub apart : AreApart pool shard
  pub room : HasRoomFor pool shard
  pub number : shard.number ≡ shard₀.number
  pub page_limit : shard.page_limit ≡ shard₀.page_limit
  pub span_limit : shard.span_limit ≡ shard₀.span_limit
  pub slot_limit : shard.slot_limit ≡ shard₀.slot_limit
  pub gens : shard.gens ≡ shard₀.gens
  pub opened : shard.opened ≡ shard₀.opened
  pub ended : shard.ended ≡ shard₀.ended

module _ (pool₀ pool next : PoolState) (shard₀ shard left : ShardState) (whole : WholeState) (is : IsMoving pool₀ shard₀ pool shard) (lifted : LiftsLast shard (Some whole) left) where
  abbrev groups_left : List GroupState
  groups_left = lifted.0

  abbrev last : GroupState
  last = lifted.1

  groups_are : left.groups ≡ groups_left
  groups_are = ap (λ (s : ShardState). s.groups) lifted.4

  same_spans : spans_moved whole ≡ spans_of last
  same_spans = ap spans_moved lifted.3

  spans_were : spans_in shard.groups ≡ spans_in left.groups ++ spans_moved whole
  spans_were = search (rules, flat_map-append, append-nil, same_spans, groups_are)

  count_last : (id : SpanId) → times id (spans_in shard.groups) ≡ times id (spans_in left.groups) + times id (spans_moved whole)
  count_last id = ap (times id) spans_were ∙ count-append (λ (s : SpanState). same_span s.id id) (spans_in left.groups) (spans_moved whole)

  length_last : length (spans_in shard.groups) ≡ length (spans_in left.groups) + length (spans_moved whole)
  length_last = ap length spans_were ∙ length-append (spans_in left.groups) (spans_moved whole)

  elsewhere_now : (place : ℕ) (span : SpanState) → slice_get (spans_moved whole) place ≡ Some span → IsElsewhere pool.groups span.id
  elsewhere_now place span here = elsewhere-times spans_of pool.groups span.id (omega (
    arith,
    is.apart span.id,
    count_last span.id,
    count-some (λ (s : SpanState). same_span s.id span.id) (spans_moved whole) place span here (test_from_same_id span.id span.id refl),
  ))

  count_groups : length shard.groups ≡ length left.groups + 1
  count_groups = ap length lifted.2 ∙ length-append groups_left (last ∷ []) ∙ ap (λ (gs : List GroupState). length gs + 1) (sym groups_are)

  pub MayTakeIn-moving : MayTakeIn pool whole
  MayTakeIn-moving = search (rules, elsewhere_now, count_groups, length_last)

  pub IsMoving-next : TakesIn pool whole next → IsSound next → IsSoundShard left → IsMoving pool₀ shard₀ next left
  IsMoving-next takes sound_next sound_left = record {
    gone = last ∷ is.gone;
    groups =
        is.groups ∙ ap (λ gs. gs ++ is.gone) lifted.2 ∙ append_assoc groups_left (last ∷ []) is.gone
        ∙ ap (λ gs. gs ++ last ∷ is.gone) (sym groups_are);
    moved = (pool, is.moved, subst (λ w. TakesIn pool w next) lifted.3 takes);
    sound = sound_next;
    sound_shard = sound_left;
    apart = λ id. omega (arith, is.apart id, times-TakesIn pool next whole takes id, count_last id);
    room = record {
      groups = omega (arith, is.room.groups, ap (λ (p : PoolState). p.group_room) takes.after, count_groups);
      spans = omega (arith, is.room.spans, ap (λ (p : PoolState). p.span_room) takes.after, length_last);
    };
    number = ap (λ (s : ShardState). s.number) lifted.4 ∙ is.number;
    page_limit = ap (λ (s : ShardState). s.page_limit) lifted.4 ∙ is.page_limit;
    span_limit = ap (λ (s : ShardState). s.span_limit) lifted.4 ∙ is.span_limit;
    slot_limit = ap (λ (s : ShardState). s.slot_limit) lifted.4 ∙ is.slot_limit;
    gens = ap (λ (s : ShardState). s.gens) lifted.4 ∙ is.gens;
    opened = ap (λ (s : ShardState). s.opened) lifted.4 ∙ is.opened;
    ended = ap (λ (s : ShardState). s.ended) lifted.4 ∙ is.ended;
  }
