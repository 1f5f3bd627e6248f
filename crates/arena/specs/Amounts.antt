-- How many pages and live keys the pool and the shards have that are lent. No public clause cites
-- this module.
use Rattle.std.specs.Prelude.{ℕ, ◌+◌, ◌-◌, ◌^◌, List, Option, None, Some, length, min, sum_by}
use Rattle.groups.specs.Group.{live_in, paged_in}
use Rattle.pool.specs.State.{PoolState, paged_groups}
use Rattle.shard.specs.State.{ShardState}

-- how many pages the shard has, if it is lent
abbrev pub shard_pages : Option ShardState → ℕ
shard_pages None = 0
shard_pages (Some shard) = length (paged_in shard.groups)

-- how many keys are live in the shard, if it is lent
abbrev pub shard_keys : Option ShardState → ℕ
shard_keys None = 0
shard_keys (Some shard) = live_in shard.groups

-- the number, or the greatest one that a machine word has, if that is less
abbrev pub at_most_word : ℕ → ℕ
at_most_word count = min count (2 ^ 64 - 1)

-- how many pages the shards have
abbrev pub owned_pages : List (Option ShardState) → ℕ
owned_pages shards = sum_by shard_pages shards

-- how many keys are live in the shards
abbrev pub owned_keys : List (Option ShardState) → ℕ
owned_keys shards = sum_by shard_keys shards

-- how many pages the pool and the shards have
abbrev pub page_count : PoolState → List (Option ShardState) → ℕ
page_count pool shards = owned_pages shards + length (paged_groups pool)

-- how many keys are live in the pool and the shards
abbrev pub key_count : PoolState → List (Option ShardState) → ℕ
key_count pool shards = owned_keys shards + live_in pool.groups
