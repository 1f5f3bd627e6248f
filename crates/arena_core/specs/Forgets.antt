-- The spans that can never be live again, which a core forgets.
use Rattle.std.specs.Prelude.{◌≡◌, ◌++◌, ℕ, List, None, length, map}
use Rattle.std.specs.List.{flat_map}
use Rattle.span.specs.State.{SpanState}
use Rattle.groups.specs.Dead.{dead_guests, without_dead}
use Rattle.shard.specs.State.{ShardState}
use Rattle.pool.specs.Forgets.{gone_from, left_in}
use Rattle.pool.specs.State.{PoolState}
use Rattle.arena_core.specs.State.{CoreState}

-- the guests of the shards in which no slot is live, in order
abbrev pub dead_owned : List ShardState → List SpanState
dead_owned shards = flat_map (λ shard. dead_guests shard.groups) shards

-- these, and of the pool the guests in which no slot is live and the spans of groups with no page
abbrev pub dead_spans : List ShardState → PoolState → List SpanState
dead_spans shards pool = dead_owned shards ++ gone_from pool.groups

-- the shard without its guests in which no slot is live
abbrev pub without_dead_guests : ShardState → ShardState
without_dead_guests shard = record shard { groups = map without_dead shard.groups }

-- the pool without its groups with no page, and without the guests of the others in which no slot
-- is live
abbrev pub without_dead_groups : PoolState → PoolState
without_dead_groups pool = record pool { groups = left_in pool.groups }

-- the core without all of them, in which they are forgotten
abbrev pub with_forgotten : CoreState → CoreState
with_forgotten core = record core {
  shards = map without_dead_guests core.shards;
  pool = without_dead_groups core.pool;
  forgotten = core.forgotten ++ dead_spans core.shards core.pool;
}

-- while no plan is open, the spans that can never be live again are forgotten, that many, and all
-- else stays
pub record Forgets (old : CoreState) (count : ℕ) (new : CoreState) : Type 0 where
  pub no_plan : old.plan ≡ None
  pub after : new ≡ with_forgotten old
  pub count_is : count ≡ length (dead_spans old.shards old.pool)
