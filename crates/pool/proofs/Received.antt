-- The end of a shard: what its groups have in common with the pool's, and what it leaves.
use Rattle.std.proofs.Common.{◌≡◌, true, [], None, subst, inl, inr, arith, rules}
use Rattle.span.specs.Ids.{same_span}
use Rattle.span.specs.State.{SpanState}
use Rattle.span.proofs.Ids.{same_id_from_test}
use Rattle.groups.specs.Group.{IsElsewhere, spans_in, spans_of}
use Rattle.shard.specs.Sound.{IsSound as IsSoundShard}
use Rattle.shard.specs.State.{ShardState}
use Rattle.groups.proofs.GroupSpans.{count-spans_in, times, times-elsewhere}
use Rattle.pool.specs.Calls.{IsInPool}
use Rattle.pool.specs.Handover.{AreApart, HasLetAllGo}
use Rattle.pool.specs.Sound.{IsSound}
use Rattle.pool.specs.State.{PoolState}
use Rattle.std.proofs.lemmas.Bool.{cases_eq, false_from_ne_true}

-- where no span of the shard is in the pool, none stands twice in both
pub AreApart-receiving : (pool : PoolState) (shard : ShardState) → IsSound pool → IsSoundShard shard → (IsInPool pool shard → ⊥) → AreApart pool shard
AreApart-receiving pool shard sound sound_shard apart id = elim (cases_eq (times id (spans_in pool.groups)) 0) [
  | inl none ↦ let most = sound_shard.once id in omega arith
  | inr some ↦
      let most = sound.once id in
      let none = count-spans_in spans_of (λ (s : SpanState). same_span s.id id) shard.groups (λ index place group span stands. false_from_ne_true (same_span span.id id) (λ same.
      apart (
        index,
        group,
        stands.0,
        (
          place,
          span,
          stands.1,
          (λ elsewhere.
              some (times-elsewhere spans_of pool.groups id (subst (IsElsewhere pool.groups) (same_id_from_test span.id id same) elsewhere))),
        ),
      ))) in
      omega arith
]

-- an ended shard has no group and no reserved room
pub ended_after : (old new : ShardState) → HasLetAllGo old new
    → ◌≡◌ {A = ShardState} (record new { ended = true; group_room = 0; span_room = 0; onto = None }) (record old { ended = true; groups = []; group_room = 0; span_room = 0; onto = None })
ended_after old new is = search rules
