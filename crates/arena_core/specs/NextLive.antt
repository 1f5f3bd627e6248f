-- The live key that comes first in what one shard shows, or of what shards and pool show. No public
-- clause cites this module.
use Rattle.std.specs.Prelude.{◌≡◌, ◌⊎◌, ℕ, List, MatchOption, Option, Some, IfSome, slice_get}
use Rattle.std.specs.List.{All, Contains}
use Rattle.span.specs.declared.id.SpanId.{SpanId}
use Rattle.span.specs.declared.key.Key.{Key}
use Rattle.span.specs.FirstLive.{HasNoneBetween, IsFirstLive}
use Rattle.span.specs.Order.{HasNoneFrom}
use Rattle.span.specs.PlainMap.{PlainMap}
use Rattle.groups.specs.FirstLive.{rank_or_end}
use Rattle.shard.specs.Shown.{shown as shown_by}
use Rattle.shard.specs.State.{ShardState}
use Rattle.pool.specs.Shown.{shown as shown_by_pool}
use Rattle.pool.specs.State.{PoolState}

-- the shard of this number, if there is one, shows no key of the span at a slot from this one on
abbrev pub HasNoneIn : List ShardState → ℕ → SpanId → ℕ → Type 0
HasNoneIn shards number id slot = (shard : ShardState) → slice_get shards number ≡ Some shard
    → HasNoneFrom (shown_by shard) id slot

-- the key is the first live one of the spans of the low rank and of later ones; if there is no key,
-- none is live from the low rank on and below the high one
abbrev pub IsFirstFound : PlainMap → ℕ → ℕ → Option Key → Type 0
IsFirstFound map low high found = MatchOption found (HasNoneBetween map low high)
    (IsFirstLive map low)

-- the key is the first that one of the shards, or the pool, shows of the spans of this rank or a
-- later one; before its span no other shows any
pub record IsFirstStanding (shards : List ShardState) (pool : PoolState) (low : ℕ)
    (found : Option Key) : Type 0 where
  pub owned : All (λ shard. HasNoneBetween (shown_by shard) low (rank_or_end found)) shards
  pub pooled : HasNoneBetween (shown_by_pool pool) low (rank_or_end found)
  pub its : IfSome found (λ key. IsFirstLive (shown_by_pool pool) low key
      ⊎ ((shard : ShardState) × Contains shards shard × IsFirstLive (shown_by shard) low key))
