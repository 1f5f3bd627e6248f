-- Groups that a plan closes, and opens again at its end.
use Rattle.std.specs.Prelude.{◌≡◌, ◌&&◌, ◌||◌, ℕ, List, map, None, Some, is_some, slice_get}
use Rattle.span.specs.declared.id.SpanId.{SpanId}
use Rattle.shard.specs.Closes.{opened_group}
use Rattle.shard.specs.Group.{GroupState}
use Rattle.shard.specs.State.{ShardState}
use Rattle.marks.specs.Plans.{AreClosedAsPlanned, plans_onto}

-- the group, closed also where it has a page and the pairs fold onto it
abbrev pub closed_by : List (SpanId × SpanId) → GroupState → GroupState
closed_by pairs group = record group {
  closed = group.closed || (is_some group.page && plans_onto pairs group.head.id);
}

-- the shard, of which just those groups with a page are closed in addition onto which the pairs
-- fold
abbrev pub closing : List (SpanId × SpanId) → ShardState → ShardState
closing pairs shard = record shard { groups = map (closed_by pairs) shard.groups }

-- the group, closed exactly where it has a page and the pairs fold onto it
abbrev pub closed_as_planned : List (SpanId × SpanId) → GroupState → GroupState
closed_as_planned pairs group =
    record group { closed = is_some group.page && plans_onto pairs group.head.id }

-- the shard, of which just those groups with a page are closed onto which the pairs fold
abbrev pub closed_onto : List (SpanId × SpanId) → ShardState → ShardState
closed_onto pairs shard = record shard { groups = map (closed_as_planned pairs) shard.groups }

-- the shard with all its groups open
abbrev pub reopened : ShardState → ShardState
reopened shard = record shard { groups = map opened_group shard.groups }

-- no group of the shards is closed
abbrev pub AreOpen : List ShardState → Type 0
AreOpen shards = (number : ℕ) (shard : ShardState) → slice_get shards number ≡ Some shard
    → AreClosedAsPlanned None shard.groups
