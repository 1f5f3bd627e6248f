-- How many spans are behind the locks of an arena. No public clause cites this module.
use Rattle.std.specs.Prelude.{ℕ, List, length, sum_by}
use Rattle.shard.specs.State.{ShardState}
use Rattle.groups.specs.Group.{spans_in}
use Rattle.pool.specs.State.{PoolState}

-- how many spans the shard has
abbrev pub shard_spans : ShardState → ℕ
shard_spans shard = length (spans_in shard.groups)

-- how many spans the shards have
abbrev pub spans_of_all : List ShardState → ℕ
spans_of_all shards = sum_by shard_spans shards

-- how many spans the pool has
abbrev pub pooled_spans : PoolState → ℕ
pooled_spans pool = length (spans_in pool.groups)
