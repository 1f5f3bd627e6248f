-- Where spans stand that left the shard which opened them.
use Rattle.std.proofs.Common.{◌≡◌, ◌≢◌, ◌⊎◌, ℕ, true, false, None, Some, inl, inr, refl, sym, ap, subst, ◌∙◌, slice_get, length, ◌≤◌}
use Rattle.std.proofs.lemmas.Bool.{cases_eq, false_from_ne_true}
use Rattle.std.proofs.lemmas.Option.{none-some}
use Rattle.span.specs.declared.id.SpanId.{SpanId}
use Rattle.span.specs.declared.key.Key.{Key}
use Rattle.span.specs.Log.{Value}
use Rattle.shard.specs.Calls.{Frees, Gets, Sets, value_found}
use Rattle.shard.specs.Shown.{shown as shown_by}
use Rattle.shard.specs.Sound.{IsSound as IsSoundShard}
use Rattle.shard.specs.State.{ShardState}
use Rattle.groups.specs.Group.{IsElsewhere}
use Rattle.shard.specs.declared.shard.Found.{Found}
use Rattle.shard.specs.declared.shard.Found.TheVariants as found
use Rattle.shard.specs.declared.shard.Freed.{Freed}
use Rattle.shard.specs.declared.shard.Freed.TheVariants as freed
use Rattle.shard.specs.declared.shard.replacing.Replaced.{Replaced}
use Rattle.shard.specs.declared.shard.replacing.Replaced.TheVariants as replaced
use Rattle.groups.proofs.Lists.{count-none, find-none, same_some}
use Rattle.pool.specs.Shown.{shown as shown_by_pool}
use Rattle.arena_core.specs.Moved.{StandsIn, StandsInNoOther, named}
use Rattle.arena_core.specs.Sound.{HasSoundGroups}
use Rattle.arena_core.specs.State.{CoreState, has_span, shard_with, shown, shown_at}
use Rattle.arena_core.proofs.Steps.{has_span-elsewhere, has_span-here, has_span-not, value-shard}
use Rattle.arena_core.specs.declared.machine.Core.TheInside.{Inside}
use Rattle.arena_core.specs.Kept.{IsKept, shards_of, state_of}
use Rattle.arena_core.proofs.Made.{unmade-standing}

-- a look-up, a set or a free that finds the span

pub has_span-Gets : (shard : ShardState) (key : Key) (answer : Found) → IsSoundShard shard → (answer ≡ found.NotHere → ⊥) → Gets shard key answer → has_span key.span shard ≡ true
has_span-Gets shard key (found.Value value at) sound here (index, place, group, span, its, holds, object, at_is) = has_span-here shard key.span index place group span sound its
has_span-Gets shard key (found.Gone at) sound here (index, place, group, span, its, gone, at_is) = has_span-here shard key.span index place group span sound its
has_span-Gets shard key found.NotHere sound here away = absurd (here refl)

pub has_span-Sets : (before after : ShardState) (key : Key) (value : Value) (answer : Replaced) → IsSoundShard before → (answer ≡ replaced.NotHere → ⊥)
    → Sets before key value answer after → has_span key.span before ≡ true
has_span-Sets before after key value (replaced.Yes at) sound here (index, place, group, span, its, settable, at_is, rest) = has_span-here before key.span index place group span sound its
has_span-Sets before after key value (replaced.No at) sound here (index, place, group, span, its, unfit, at_is, same) = has_span-here before key.span index place group span sound its
has_span-Sets before after key value replaced.NotHere sound here away = absurd (here refl)

pub has_span-Frees : (before after : ShardState) (key : Key) (answer : Freed) → IsSoundShard before → (answer ≡ freed.NotHere → ⊥) → Frees before key answer after → has_span key.span before ≡ true
has_span-Frees before after key (freed.Yes at) sound here (index, place, group, span, its, holds, at_is, rest) = has_span-here before key.span index place group span sound its
has_span-Frees before after key (freed.No at) sound here (index, place, group, span, its, gone, at_is, same) = has_span-here before key.span index place group span sound its
has_span-Frees before after key freed.NotHere sound here away = absurd (here refl)

-- where the shard has the key's span, its answer is that of the core
pub value-Gets : (core : CoreState) (key : Key) (number : ℕ) (shard : ShardState) (answer : Found) → HasSoundGroups core
    → slice_get core.shards number ≡ Some shard → (answer ≡ found.NotHere → ⊥) → Gets shard key answer
    → value_found answer ≡ (shown_by shard).value_of key → value_found answer ≡ (shown core).value_of key
value-Gets core key number shard answer sound here found_here gets plain =
    plain ∙ sym (value-shard core sound key number shard here (has_span-Gets shard key answer (sound.shards number shard here).sound found_here gets))

-- the shard was asked, and does not have the span
pub not-standing : (core : CoreState) → HasSoundGroups core → (id : SpanId) (number : ℕ) (shard : ShardState) → slice_get core.shards number ≡ Some shard
    → IsElsewhere shard.groups id → StandsIn core.shards id number → ⊥
not-standing core sound id number shard here away (other, there, has) =
    let same : other ≡ shard = same_some (sym there ∙ here) in
    let never : true ≡ false = sym has ∙ ap (has_span id) same ∙ has_span-not shard id (sound.shards number shard here).sound away in
    cc

pub standing : (core : CoreState) → HasSoundGroups core → (id : SpanId) (number : ℕ) (shard : ShardState) → slice_get core.shards number ≡ Some shard
    → (IsElsewhere shard.groups id → ⊥) → StandsIn core.shards id number
standing core sound id number shard here some = (shard, here, has_span-elsewhere shard id (sound.shards number shard here).sound some)

-- a span that is in no shard

module _ (core : CoreState) (key : Key) (not_home : StandsIn core.shards key.span key.span.shard → ⊥) (no_other : StandsInNoOther core.shards key.span) where
  shard_with-no_other : shard_with core.shards key.span ≡ None
  shard_with-no_other = find-none (has_span key.span) core.shards (count-none (has_span key.span) core.shards (λ number shard here. false_from_ne_true (has_span key.span shard) (λ has. by_home number shard here has (cases_eq number key.span.shard))))
    where
      by_home : (number : ℕ) (shard : ShardState) → slice_get core.shards number ≡ Some shard → has_span key.span shard ≡ true → (number ≡ key.span.shard) ⊎ (number ≢ key.span.shard) → ⊥
      by_home number shard here has (inl same) = not_home (shard, ap (slice_get core.shards) (sym same) ∙ here, has)
      by_home number shard here has (inr other) = no_other number other (shard, here, has)

  pub value-no_other : (shown core).value_of key ≡ (shown_by_pool core.pool).value_of key
  value-no_other = ap (λ o. (shown_at core.pool o).value_of key) shard_with-no_other

-- what the entries say of a span

module _ {L : Type 0} (c : Inside L) (kept : IsKept c) {now : CoreState} (now_is : state_of c ≡ now) (id : SpanId) where
  pub no_other-unnamed : named c.whereabouts.entries id ≡ None → StandsInNoOther now.shards id
  no_other-unnamed none = subst (λ (s : CoreState). StandsInNoOther s.shards id) now_is (λ number foreign stands. none-some _ (sym none ∙ kept.moved id number foreign stands))

  pub no_other-named : (number : ℕ) → named c.whereabouts.entries id ≡ Some number → (StandsIn (shards_of c) id number → ⊥) → StandsInNoOther now.shards id
  no_other-named number is never = subst (λ (s : CoreState). StandsInNoOther s.shards id) now_is (λ other foreign stands.
      let same : other ≡ number = same_some (sym (kept.moved id other foreign stands) ∙ is) in
      never (subst (StandsIn (shards_of c) id) same stands))

  -- the shard that is named is not made
  pub no_other-unmade : (number : ℕ) → named c.whereabouts.entries id ≡ Some number → length c.shards.items ≤ number → StandsInNoOther now.shards id
  no_other-unmade number is past = no_other-named number is (unmade-standing c.limits c.shards.items id number past)

  -- the shard that is named was asked, and does not have the span
  pub no_other-away : (number : ℕ) (shard : ShardState) → named c.whereabouts.entries id ≡ Some number → slice_get (shards_of c) number ≡ Some shard → IsElsewhere shard.groups id
      → StandsInNoOther now.shards id
  no_other-away number shard is here away = no_other-named number is (not-standing (state_of c) kept.sound.groups id number shard here away)
