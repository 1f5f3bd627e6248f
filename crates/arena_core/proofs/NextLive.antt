-- The live key that comes next, from what spans, shards and the pool have.
use Rattle.std.proofs.Common.{◌≡◌, ◌≢◌, ◌⊎◌, ◌<◌, ◌≤◌, ◌++◌, ◌∷◌, [], ℕ, Bool, true, false, List, Option, None, Some, inl, inr, refl, sym, ap, subst, ◌∙◌, arith, slice_get, is_some, IfSome, MatchOption}
use Rattle.std.specs.List.{All, Contains}
use Rattle.std.proofs.lemmas.List.Elements.{All-contains, All-nil, All-push, All-weaker, Contains-append_left, Contains-push}
use Rattle.std.proofs.lemmas.Option.{get_or_from_slice_get, slice_get-get_or, slice_get_within, none-some}
use Rattle.std.proofs.lemmas.Bool.{cases_eq, false_from_ne_true, true_from_ne_false}
use Rattle.span.specs.declared.id.SpanId.{SpanId}
use Rattle.span.specs.declared.key.Key.{Key}
use Rattle.span.specs.declared.limits.TheConstants.{ALL_IDS}
use Rattle.span.specs.Ids.{rank}
use Rattle.span.specs.Log.{Value}
use Rattle.span.specs.FirstLive.{HasNoneBetween, IsFirstLive}
use Rattle.span.specs.Order.{HasNoneFrom, IsFirstFrom}
use Rattle.span.specs.PlainMap.{PlainMap}
use Rattle.shard.specs.Shown.{shown as shown_by}
use Rattle.shard.specs.State.{ShardState}
use Rattle.groups.specs.FirstLive.{rank_or_end}
use Rattle.groups.proofs.FirstLive.{IsFirstLive-span, has-none}
use Rattle.groups.proofs.Lists.{found_at, same_some}
use Rattle.pool.specs.Shown.{shown as shown_by_pool}
use Rattle.pool.specs.State.{PoolState}
use Rattle.arena_core.specs.Moved.{Entries, KnowsMoved, named}
use Rattle.arena_core.specs.NextLive.{HasNoneIn, IsFirstStanding}
use Rattle.arena_core.specs.Sound.{HasSoundGroups}
use Rattle.arena_core.specs.State.{CoreState, has_span, shard_with, shown, shown_at}
use Rattle.arena_core.proofs.Changes.{at_most_once}
use Rattle.arena_core.proofs.Owners.{value-missed, value-unpooled}
use Rattle.arena_core.proofs.Spans.{shard_with-nowhere, times-parts, times_in-missed, times_pooled}
use Rattle.arena_core.proofs.Steps.{value-shard}
use Rattle.std.proofs.option.Match.{None-if_not_some}
use Rattle.arena_core.proofs.Lists.{not_below}

abbrev has_value : PlainMap → Key → Bool
has_value map key = is_some (map.value_of key)

none-unless : (o : Option Value) → (is_some o ≡ true → ⊥) → o ≡ None
none-unless o never = None-if_not_some o (false_from_ne_true (is_some o) never)

-- maps that show the same of a span have the same key there
pub IsFirstFrom-same : (a b : PlainMap) (id : SpanId) (slot : ℕ) (key : Key) → ((other : Key) → other.span ≡ id → b.value_of other ≡ a.value_of other)
    → IsFirstFrom a id slot key → IsFirstFrom b id slot key
IsFirstFrom-same a b id slot key same its = record {
  live = ap is_some (same key its.span_is) ∙ its.live;
  span_is = its.span_is;
  not_below = its.not_below;
  first = λ other of above some. its.first other of above (ap is_some (sym (same other of)) ∙ some);
}

module _ (core : CoreState) (sound : HasSoundGroups core) where
  -- what a shard answers is what the core has, where it answers a key
  pub first-shard : (number : ℕ) (shard : ShardState) (id : SpanId) (slot : ℕ) (o : Option Key) → slice_get core.shards number ≡ Some shard
      → MatchOption o (HasNoneFrom (shown_by shard) id slot) (IsFirstFrom (shown_by shard) id slot) → MatchOption o (HasNoneIn core.shards number id slot) (IsFirstFrom (shown core) id slot)
  first-shard number shard id slot None here none = λ other there. subst (λ (s : ShardState). HasNoneFrom (shown_by s) id slot) (same_some (sym here ∙ there)) none
  first-shard number shard id slot (Some key) here its =
      let has : has_span id shard ≡ true = ap (λ i. has_span i shard) (sym its.span_is)
      ∙ true_from_ne_false (has_span key.span shard) (λ e. has-none (shown_by shard) key its.live (value-missed shard key (times_in-missed key.span shard e))) in
      IsFirstFrom-same (shown_by shard) (shown core) id slot key (λ other of. value-shard core sound other number shard here (ap (λ i. has_span i shard) of ∙ has)) its

  -- so is what the pool answers, where it answers a key
  pub IsFirstFrom-pool : (id : SpanId) (slot : ℕ) (key : Key) → IsFirstFrom (shown_by_pool core.pool) id slot key → IsFirstFrom (shown core) id slot key
  IsFirstFrom-pool id slot key its =
      IsFirstFrom-same (shown_by_pool core.pool) (shown core) id slot key (λ other of. ap (λ o. (shown_at core.pool o).value_of other) (ap (shard_with core.shards) of ∙ nowhere)) its
    where
      pooled : 1 ≤ times_pooled key.span core.pool
      pooled = not_below (times_pooled key.span core.pool) 1 (λ none. has-none (shown_by_pool core.pool) key its.live (value-unpooled core.pool key (omega arith)))

      nowhere : shard_with core.shards id ≡ None
      nowhere = ap (shard_with core.shards) (sym its.span_is)
          ∙ shard_with-nowhere key.span core.shards (omega (arith, pooled, times-parts key.span core, at_most_once core sound key.span))

  -- where no shard has such a key, and the pool has none, there is none
  pub HasNoneFrom-pool : (id : SpanId) (slot : ℕ) → ((number : ℕ) → HasNoneIn core.shards number id slot) → HasNoneFrom (shown_by_pool core.pool) id slot → HasNoneFrom (shown core) id slot
  HasNoneFrom-pool id slot owned pooled key of above = by_shard (shard_with core.shards key.span) refl
    where
      by_shard : (o : Option ShardState) → shard_with core.shards key.span ≡ o → (shown_at core.pool o).value_of key ≡ None
      by_shard None e = pooled key of above
      by_shard (Some shard) e = let at = found_at (has_span key.span) core.shards shard e in owned at.0.0 shard at.0.1 key of above

  pub first-pool : (id : SpanId) (slot : ℕ) (o : Option Key) → ((number : ℕ) → HasNoneIn core.shards number id slot)
      → MatchOption o (HasNoneFrom (shown_by_pool core.pool) id slot) (IsFirstFrom (shown_by_pool core.pool) id slot)
      → MatchOption o (HasNoneFrom (shown core) id slot) (IsFirstFrom (shown core) id slot)
  first-pool id slot None owned pooled = HasNoneFrom-pool id slot owned pooled
  first-pool id slot (Some key) owned its = IsFirstFrom-pool id slot key its

-- a span stands in the shard that opened it, in the one that is named, or in none
module _ (shards : List ShardState) (entries : Entries) (knows : KnowsMoved shards entries) (id : SpanId) (slot : ℕ) (home : HasNoneIn shards id.shard id slot) where
  foreign : (number : ℕ) → ((named entries id ≡ Some number) → HasNoneIn shards number id slot) → HasNoneIn shards number id slot
  foreign number moved shard here key of above = elim (cases_eq number id.shard) [
    | inl same ↦ home shard (ap (slice_get shards) (sym same) ∙ here) key of above
    | inr other ↦ by_test other (has_span key.span shard) refl
  ]
    where
      by_test : number ≢ id.shard → (b : Bool) → has_span key.span shard ≡ b → (shown_by shard).value_of key ≡ None
      by_test other true e = moved (knows id number other (shard, here, ap (λ i. has_span i shard) (sym of) ∙ e)) shard here key of above
      by_test other false e = value-missed shard key (times_in-missed key.span shard e)

  pub owned-unnamed : named entries id ≡ None → (number : ℕ) → HasNoneIn shards number id slot
  owned-unnamed none number = foreign number (λ is. absurd (none-some _ (sym none ∙ is)))

  pub owned-named : (it : ℕ) → named entries id ≡ Some it → HasNoneIn shards it id slot → (number : ℕ) → HasNoneIn shards number id slot
  owned-named it is its number = foreign number (λ other. subst (λ n. HasNoneIn shards n id slot) (same_some (sym is ∙ other)) its)

-- the first of what shards and pool show is the first of the core

HasNoneBetween-first : (map : PlainMap) (low : ℕ) (o : Option Key) → MatchOption o (HasNoneBetween map low ALL_IDS) (IsFirstLive map low) → HasNoneBetween map low (rank_or_end o)
HasNoneBetween-first map low None none = none
HasNoneBetween-first map low (Some key) first = λ other above below. none-unless (map.value_of other) (λ some. elim (first.first other above some) [
  | inl equal ↦ omega (arith, below, ap (λ (k : Key). rank k.span) equal)
  | inr (inl later) ↦ omega (arith, below, later)
  | inr (inr (same, later)) ↦ omega (arith, below, ap rank same)
])

HasNoneBetween-less : (map : PlainMap) (low high less : ℕ) → less ≤ high → HasNoneBetween map low high → HasNoneBetween map low less
HasNoneBetween-less map low high less most none key above below = none key above (omega (arith, below, most))

IsFirstFrom-live : (map : PlainMap) (low : ℕ) (key : Key) → IsFirstLive map low key → IsFirstFrom map key.span 0 key
IsFirstFrom-live map low key first = record {
  live = first.live;
  span_is = refl;
  not_below = omega arith;
  first = λ other same above some. elim (first.first other (omega (arith, first.not_below, ap rank same)) some) [
    | inl equal ↦ inl equal
    | inr (inl later) ↦ absurd (omega (arith, later, ap rank same))
    | inr (inr (of, later)) ↦ inr later
  ];
}

abbrev Its : List ShardState → PoolState → ℕ → Key → Type 0
Its shards pool low key = IsFirstLive (shown_by_pool pool) low key ⊎ ((shard : ShardState) × Contains shards shard × IsFirstLive (shown_by shard) low key)

pub IsFirstStanding-pool : (pool : PoolState) (low : ℕ) (o : Option Key) → MatchOption o (HasNoneBetween (shown_by_pool pool) low ALL_IDS) (IsFirstLive (shown_by_pool pool) low)
    → IsFirstStanding [] pool low o
IsFirstStanding-pool pool low o first = record {
  owned = All-nil (λ (shard : ShardState). HasNoneBetween (shown_by shard) low (rank_or_end o));
  pooled = HasNoneBetween-first (shown_by_pool pool) low o first;
  its = by_option o first;
}
  where
    by_option : (o : Option Key) → MatchOption o (HasNoneBetween (shown_by_pool pool) low ALL_IDS) (IsFirstLive (shown_by_pool pool) low) → IfSome o (Its [] pool low)
    by_option None none = tt
    by_option (Some key) its = inl its

-- one more shard
pub IsFirstStanding-shard : (shards : List ShardState) (pool : PoolState) (shard : ShardState) (low : ℕ) (a b o : Option Key) → IsFirstStanding shards pool low a
    → MatchOption b (HasNoneBetween (shown_by shard) low ALL_IDS) (IsFirstLive (shown_by shard) low)
    → ((o ≡ a) × (rank_or_end a ≤ rank_or_end b)) ⊎ ((o ≡ b) × (rank_or_end b < rank_or_end a)) → IsFirstStanding (shards ++ shard ∷ []) pool low o
IsFirstStanding-shard shards pool shard low a b o before first (inl (is, most)) = subst (IsFirstStanding (shards ++ shard ∷ []) pool low) (sym is) (record {
  owned = All-push (λ (s : ShardState). HasNoneBetween (shown_by s) low (rank_or_end a)) shards shard before.owned
      (HasNoneBetween-less (shown_by shard) low (rank_or_end b) (rank_or_end a) most (HasNoneBetween-first (shown_by shard) low b first));
  pooled = before.pooled;
  its = by_option a before.its;
})
  where
    by_option : (o : Option Key) → IfSome o (Its shards pool low) → IfSome o (Its (shards ++ shard ∷ []) pool low)
    by_option None its = tt
    by_option (Some key) (inl its) = inl its
    by_option (Some key) (inr (s, inside, its)) = inr (s, Contains-append_left shards (shard ∷ []) s inside, its)
IsFirstStanding-shard shards pool shard low a b o before first (inr (is, less)) = subst (IsFirstStanding (shards ++ shard ∷ []) pool low) (sym is) (record {
  owned = All-push (λ (s : ShardState). HasNoneBetween (shown_by s) low (rank_or_end b)) shards shard
      (All-weaker (λ (s : ShardState). HasNoneBetween (shown_by s) low (rank_or_end a)) (λ (s : ShardState). HasNoneBetween (shown_by s) low (rank_or_end b))
      (λ s none. HasNoneBetween-less (shown_by s) low (rank_or_end a) (rank_or_end b) (omega (arith, less)) none) shards before.owned)
      (HasNoneBetween-first (shown_by shard) low b first);
  pooled = HasNoneBetween-less (shown_by_pool pool) low (rank_or_end a) (rank_or_end b) (omega (arith, less)) before.pooled;
  its = by_option b first;
})
  where
    by_option : (o : Option Key) → MatchOption o (HasNoneBetween (shown_by shard) low ALL_IDS) (IsFirstLive (shown_by shard) low) → IfSome o (Its (shards ++ shard ∷ []) pool low)
    by_option None none = tt
    by_option (Some key) its = inr (shard, Contains-push shards shard, its)

module _ (core : CoreState) (sound : HasSoundGroups core) (low : ℕ) where
  none-standing : (high : ℕ) → All (λ shard. HasNoneBetween (shown_by shard) low high) core.shards → HasNoneBetween (shown_by_pool core.pool) low high → HasNoneBetween (shown core) low high
  none-standing high owned pooled key above below = by_shard (shard_with core.shards key.span) refl
    where
      by_shard : (o : Option ShardState) → shard_with core.shards key.span ≡ o → (shown_at core.pool o).value_of key ≡ None
      by_shard None e = pooled key above below
      by_shard (Some shard) e =
          let at = found_at (has_span key.span) core.shards shard e in
          All-contains (λ (s : ShardState). HasNoneBetween (shown_by s) low high) core.shards shard owned
          (at.0.0, slice_get_within core.shards at.0.0 shard at.0.1, get_or_from_slice_get core.shards at.0.0 shard shard at.0.1) key above below

  pub first-standing : (o : Option Key) → IsFirstStanding core.shards core.pool low o → MatchOption o (HasNoneBetween (shown core) low ALL_IDS) (IsFirstLive (shown core) low)
  first-standing None first = none-standing ALL_IDS first.owned first.pooled
  first-standing (Some key) first = by_owner first.its
    where
      none : HasNoneBetween (shown core) low (rank key.span)
      none = none-standing (rank key.span) first.owned first.pooled

      by_owner : Its core.shards core.pool low key → IsFirstLive (shown core) low key
      by_owner (inl its) = IsFirstLive-span (shown core) low key.span key its.not_below none
          (IsFirstFrom-pool core sound key.span 0 key (IsFirstFrom-live (shown_by_pool core.pool) low key its))
      by_owner (inr (shard, (at, within, is), its)) = IsFirstLive-span (shown core) low key.span key its.not_below none
          (first-shard core sound at shard key.span 0 (Some key) (slice_get-get_or core.shards at shard within ∙ ap Some is) (IsFirstFrom-live (shown_by shard) low key its))
