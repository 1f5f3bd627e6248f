-- Some groups, which stand for all of the pool.
use Rattle.std.specs.Prelude.{◌≡◌, ℕ, List, length}
use Rattle.std.specs.List.Sorted.{IsPermutation}
use Rattle.groups.specs.Group.{live_in, paged_in}
use Rattle.pool.specs.State.{PooledState}
use Rattle.shard.specs.Spaced.{spaced}
use Rattle.shard.specs.declared.shard.sampling.Sample.{Sample}

-- of the groups, as they stand in some order, the first and one after each so many others have so
-- many pages, and so many live keys on them
pub record Samples (gap : ℕ) (groups : List PooledState) (sample : Sample) : Type 0 where
  pub standing : List PooledState
  pub each : IsPermutation standing groups
  pub pages : sample.pages ≡ length (paged_in (spaced gap standing))
  pub live : sample.live ≡ live_in (paged_in (spaced gap standing))
