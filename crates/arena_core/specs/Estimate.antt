-- How many pages and live keys a core has, as some of its groups tell.
use Rattle.std.specs.Prelude.{◌≡◌, ℕ, ◌+◌, ◌*◌, ◌-◌, ◌^◌, length, min, sum_by}
use Rattle.groups.specs.Group.{live_in, paged_in}
use Rattle.marks.specs.declared.totals.Totals.{Totals}
use Rattle.pool.specs.Samples.{Samples}
use Rattle.shard.specs.Spaced.{spaced}
use Rattle.shard.specs.State.{ShardState}
use Rattle.shard.specs.declared.shard.sampling.Sample.{Sample}
use Rattle.arena_core.specs.State.{CoreState}

-- how many groups the shards and the pool have
abbrev pub group_count : CoreState → ℕ
group_count core = sum_by (λ shard. length shard.groups) core.shards + length core.pool.groups

-- how many pages the first group of the shard has, and one after each so many others
abbrev pub pages_by : ℕ → ShardState → ℕ
pages_by gap shard = length (paged_in (spaced gap shard.groups))

-- how many keys are live in these groups
abbrev pub live_by : ℕ → ShardState → ℕ
live_by gap shard = live_in (spaced gap shard.groups)

-- what such groups of each shard and of the pool have together
pub record IsSampled (gap : ℕ) (core : CoreState) (looked_at : Totals) : Type 0 where
  pub pooled : Sample
  pub samples : Samples gap core.pool.groups pooled
  pub pages : looked_at.pages ≡ sum_by (pages_by gap) core.shards + pooled.pages
  pub live : looked_at.live ≡ sum_by (live_by gap) core.shards + pooled.live

-- each group that is looked at counts for those that are passed over after it, up to what a machine
-- word can say
pub record IsEstimate (gap : ℕ) (core : CoreState) (estimate : Totals) : Type 0 where
  pub looked_at : Totals
  pub sampled : IsSampled gap core looked_at
  pub pages : estimate.pages ≡ min (looked_at.pages * (gap + 1)) (2 ^ 64 - 1)
  pub live : estimate.live ≡ min (looked_at.live * (gap + 1)) (2 ^ 64 - 1)
