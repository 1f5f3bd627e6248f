-- Which answer two groups get.
use Rattle.std.proofs.Common.{◌≡◌, ◌⊎◌, ℕ, true, false, is_some, ◌∙◌, ap, sym, subst, inl, inr}
use Rattle.std.proofs.option.Match.{None-if_not_some}
use Rattle.bitmap.specs.Slots.{AreDisjoint, SlotSet}
use Rattle.span.specs.declared.id.SpanId.{SpanId}
use Rattle.shard.specs.Group.{GroupState}
use Rattle.groups.specs.Group.{IsHeadOf, occupied, spans_of}
use Rattle.groups.specs.Spans.{union_of}
use Rattle.shard.specs.Sound.{IsSound as IsSoundShard}
use Rattle.shard.specs.State.{ShardState}
use Rattle.shard.proofs.HeadsHere.{same_group}
use Rattle.pool.specs.Calls.{WouldDouble}
use Rattle.pool.specs.Sound.{IsSound}
use Rattle.pool.specs.State.{PoolState, PooledState}
use Rattle.pool.proofs.Adopted.{one_head}
use Rattle.fold.specs.Folds.{IsAbsent, IsClash, IsEmptied, MayFold}

module _ (pool : PoolState) (sound : IsSound pool) (shard : ShardState) (sound_shard : IsSoundShard shard) (a b : SpanId) (index place : ℕ)
    (group : PooledState) (onto : GroupState) (from : IsHeadOf pool.groups a index group) (to : IsHeadOf shard.groups b place onto)
    (fresh : WouldDouble pool shard a → ⊥) where
  same_from : (other : ℕ) (g : PooledState) → IsHeadOf pool.groups a other g → g ≡ group
  same_from other g its = one_head pool sound other index g group its.here from.here (its.head_is ∙ sym from.head_is)

  same_onto : (other : ℕ) (g : GroupState) → IsHeadOf shard.groups b other g → g ≡ onto
  same_onto other g its = same_group shard.groups sound_shard.ascending b other place g onto its to

  present : IsAbsent pool shard a b → ⊥
  present (inl none) = none index group from
  present (inr (inl none)) = none place onto to
  present (inr (inr doubled)) = fresh doubled

  pub IsEmptied-here : is_some group.page ≡ false → IsEmptied pool shard a b
  IsEmptied-here no_page = (present, (index, group, from, None-if_not_some group.page no_page))

  module _ (has_page : is_some group.page ≡ true) where
    paged : IsEmptied pool shard a b → ⊥
    paged (there, (other, g, its, none)) =
        let e : true ≡ false = sym has_page ∙ ap (λ (x : PooledState). is_some x.page) (sym (same_from other g its)) ∙ ap is_some none in
        cc

    pub IsClash-here : (onto.head.class ≡ group.head.class → ⊥) ⊎ (AreDisjoint (occupied onto) (union_of (spans_of group)) → ⊥) → IsClash pool shard a b
    IsClash-here clash = (present, paged, (index, place, group, onto, from, to, clash))

    pub MayFold-here : onto.head.class ≡ group.head.class → AreDisjoint (occupied onto) (union_of (spans_of group)) → MayFold pool shard a b
    MayFold-here same apart = record {
      present = present;
      paged = paged;
      apart = λ (there, some, (i, j, g, h, its, others, clash)). elim clash [
        | inl differ ↦ differ (ap (λ (x : GroupState). x.head.class) (same_onto j h others) ∙ same ∙ ap (λ (x : PooledState). x.head.class) (sym (same_from i g its)))
        | inr both ↦
            both (subst (λ (x : GroupState). AreDisjoint (occupied x) (union_of (spans_of g))) (sym (same_onto j h others))
            (subst (λ (x : PooledState). AreDisjoint (occupied onto) (union_of (spans_of x))) (sym (same_from i g its)) apart))
      ];
    }

-- sets that are equal are disjoint alike
pub AreDisjoint-same : (a b other_a other_b : SlotSet) → a ≡ other_a → b ≡ other_b → AreDisjoint a b → AreDisjoint other_a other_b
AreDisjoint-same a b other_a other_b same_a same_b apart = subst (λ s. AreDisjoint s other_b) same_a (subst (AreDisjoint a) same_b apart)
