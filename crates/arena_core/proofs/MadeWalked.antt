-- A walk over the shards that were made is one over all shards.
use Rattle.std.proofs.Common.{◌≤◌, ◌⊎◌, ℕ, List, None, Option, Some, inl, inr, length, refl, subst, IfSome}
use Rattle.std.specs.List.{Contains}
use Rattle.std.proofs.lemmas.List.Elements.{All-from_recursion, recursion_from_All}
use Rattle.span.specs.declared.key.Key.{Key}
use Rattle.span.specs.declared.id.SpanId.{SpanId}
use Rattle.span.specs.Order.{HasNoneFrom}
use Rattle.span.specs.FirstLive.{HasNoneBetween, IsFirstLive}
use Rattle.groups.specs.FirstLive.{rank_or_end}
use Rattle.shard.specs.Shown.{shown as shown_by}
use Rattle.shard.specs.State.{ShardState}
use Rattle.pool.specs.Shown.{shown as shown_by_pool}
use Rattle.pool.specs.State.{PoolState}
use Rattle.marks.specs.Numbers.{Limits}
use Rattle.arena_core.specs.Made.{all_shards, new_shard_of}
use Rattle.arena_core.specs.NextLive.{HasNoneIn, IsFirstStanding}
use Rattle.arena_core.proofs.Made.{completed-all, made-Contains, unmade-new}

module _ (limits : Limits) (made : List ShardState) (pool : PoolState) (low : ℕ) where
  abbrev NoneBefore : Option Key → ShardState → Type 0
  NoneBefore found shard = HasNoneBetween (shown_by shard) low (rank_or_end found)

  abbrev Its : List ShardState → Key → Type 0
  Its shards key = IsFirstLive (shown_by_pool pool) low key ⊎ ((shard : ShardState) × Contains shards shard × IsFirstLive (shown_by shard) low key)

  its-all : (found : Option Key) → IfSome found (Its made) → IfSome found (Its (all_shards limits made))
  its-all None its = tt
  its-all (Some key) (inl its) = inl its
  its-all (Some key) (inr (shard, contains, its)) = inr (shard, made-Contains limits made shard contains, its)

  pub IsFirstStanding-all : (found : Option Key) → IsFirstStanding made pool low found → IsFirstStanding (all_shards limits made) pool low found
  IsFirstStanding-all found first = record {
    owned = All-from_recursion (NoneBefore found) (all_shards limits made)
        (completed-all 0 limits.shards (new_shard_of limits) (NoneBefore found) (λ k key above below. refl) made (recursion_from_All (NoneBefore found) made first.owned));
    pooled = first.pooled;
    its = its-all found first.its;
  }

-- a shard that was not made shows no key
pub HasNoneIn-unmade : (limits : Limits) (made : List ShardState) (number : ℕ) (id : SpanId) (slot : ℕ) → length made ≤ number → HasNoneIn (all_shards limits made) number id slot
HasNoneIn-unmade limits made number id slot past shard here =
    subst (λ (s : ShardState). HasNoneFrom (shown_by s) id slot) (unmade-new limits made number shard past here) (λ key same above. refl)
