-- What a forgetting leaves of shards that are lent, and how many spans it takes. No public clause
-- cites this module.
use Rattle.std.specs.Prelude.{ℕ, ◌+◌, List, Option, None, Some, length, map, option_map, sum_by}
use Rattle.groups.specs.Dead.{dead_guests, without_dead}
use Rattle.pool.specs.Forgets.{gone_from, left_in}
use Rattle.pool.specs.State.{PoolState}
use Rattle.shard.specs.State.{ShardState}

-- the shard, whose groups have lost their guests in which no slot is live
abbrev pub without_dead_guests : ShardState → ShardState
without_dead_guests shard = record shard { groups = map without_dead shard.groups }

-- how many such guests the shard has, if it is lent
abbrev pub dead_count : Option ShardState → ℕ
dead_count None = 0
dead_count (Some shard) = length (dead_guests shard.groups)

-- the shards, each without such guests
abbrev pub all_without_dead : List (Option ShardState) → List (Option ShardState)
all_without_dead shards = map (option_map without_dead_guests) shards

-- how many such guests the shards have
abbrev pub dead_of_all : List (Option ShardState) → ℕ
dead_of_all shards = sum_by dead_count shards

-- the pool, with what is left of its groups
abbrev pub pool_left : PoolState → PoolState
pool_left pool = record pool { groups = left_in pool.groups }

-- how many spans go from the pool and the shards
abbrev pub gone_of_all : PoolState → List (Option ShardState) → ℕ
gone_of_all pool shards = dead_of_all shards + length (gone_from pool.groups)
