-- Groups that leave a shard one after another, while their places stay until all have left.
use Rattle.std.specs.Prelude.{ℕ, Bool, ◌&&◌, true, filter, is_some, length, nat_eq, not}
use Rattle.span.specs.declared.class.Class.{Class}
use Rattle.span.specs.declared.id.SpanId.{SpanId}
use Rattle.shard.specs.Calls.{empty_group}
use Rattle.shard.specs.Group.{GroupState}
use Rattle.shard.specs.State.{ShardState}

-- the group has left, and this is its place: it is closed, and has neither a page nor a guest
abbrev pub has_left : GroupState → Bool
has_left group = group.closed && (not (is_some group.page) && nat_eq (length group.guests) 0)

-- the place of a group that has left, under its head's id
abbrev pub left_place : SpanId → Class → ℕ → GroupState
left_place id class gens = record (empty_group id class gens) { closed = true }

-- the group has not left
abbrev pub has_stayed : GroupState → Bool
has_stayed group = not (has_left group)

-- the shard without the places of groups that have left
abbrev pub swept : ShardState → ShardState
swept shard = record shard { groups = filter has_stayed shard.groups }
