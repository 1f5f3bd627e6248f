-- What contracts see of shards that their latches lend.
use Rattle.std.specs.Prelude.{List, [], ◌∷◌, Option, None, Some, map, option_map}
use Rattle.atomic_table.specs.Seated.{TableId}
use Rattle.groups.specs.Group.{IsElsewhere}
use Rattle.shard.specs.State.{ShardState}
use Rattle.span.specs.declared.id.SpanId.{SpanId}
use Rattle.arena.specs.declared.locks.LockedShard.{LockedShard}

-- the span stands in a group of the shard that is lent
abbrev pub HasGroup : SpanId → Option ShardState → Type 0
HasGroup id None = ⊥
HasGroup id (Some shard) = IsElsewhere shard.groups id → ⊥

-- the shards that are lent, without the places at which none is
abbrev pub those_lent : List (Option ShardState) → List ShardState
those_lent [] = []
those_lent (None ∷ shards) = those_lent shards
those_lent (Some shard ∷ shards) = shard ∷ those_lent shards

module _ {L : Type 0} where
  -- the latch that lends each shard
  abbrev pub latches_of : List (Option (LockedShard L)) → List (Option TableId)
  latches_of shards = map (option_map (λ (shard : LockedShard L). shard.guard.latch.now)) shards

  -- each shard that is lent, of all
  abbrev pub all_lent_by : List (LockedShard L) → List ShardState
  all_lent_by shards = map (λ (shard : LockedShard L). shard.guard.value.value) shards

  -- the shard that is lent, if one is
  abbrev pub shard_lent : Option (LockedShard L) → Option ShardState
  shard_lent shard = option_map (λ (shard : LockedShard L). shard.guard.value.value) shard

  -- each shard that is lent
  abbrev pub lent_by : List (Option (LockedShard L)) → List (Option ShardState)
  lent_by shards = map shard_lent shards
