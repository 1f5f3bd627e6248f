-- The one shard that has a group with a page, and what closes there. No public clause cites this
-- module.
use Rattle.std.specs.Prelude.{◌≡◌, [], ℕ, Bool, map, true, false, List, Some, slice_get, slice_set, ◌∷◌, ◌++◌}
use Rattle.span.specs.declared.id.SpanId.{SpanId}
use Rattle.groups.specs.Group.{Ascend}
use Rattle.shard.specs.Closes.{Closes, HasNoPagedHead, HasPagedHead}
use Rattle.shard.specs.State.{ShardState}
use Rattle.marks.specs.Closings.{closing}

-- one shard at most has a group of this head with a page
abbrev pub IsOnce : List ShardState → SpanId → Type 0
IsOnce shards head = (low high : ℕ) (a b : ShardState) → slice_get shards low ≡ Some a
    → slice_get shards high ≡ Some b → HasPagedHead a.groups head → HasPagedHead b.groups head
    → low ≡ high

-- the shards with the groups closed of some pairs become those with this pair's too, if at most one
-- shard has its group
abbrev pub CloseOneMore : SpanId × SpanId → List ShardState → List ShardState → Type 0
CloseOneMore pair old new = (first : List ShardState) (done : List (SpanId × SpanId))
    → IsOnce first pair.1 → old ≡ map (closing done) first
    → new ≡ map (closing (done ++ pair ∷ [])) first

-- the shard at the place, if there is one, closes the group of the head, or has none with a page
abbrev pub ClosesAt : List ShardState → ℕ → SpanId → Bool → List ShardState → Type 0
ClosesAt old place head false new = ((shard : ShardState) → slice_get old place ≡ Some shard
    → HasNoPagedHead shard.groups head) × (new ≡ old)
ClosesAt old place head true new = (shard after : ShardState) × (slice_get old place ≡ Some shard)
    × Closes shard head true after × Ascend after.groups × (new ≡ slice_set old place after)
