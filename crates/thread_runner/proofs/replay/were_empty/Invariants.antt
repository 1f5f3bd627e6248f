use Rattle.thread_runner.proofs.Names.{◌≡◌, ◌<◌, ℕ, slice_index_or}
use Rattle.std.proofs.Common.{All}
use Rattle.thread_runner.proofs.replay.were_empty.Given as goal

abbrev pub invariant-loop-shard : goal.invariant-loop-shard
invariant-loop-shard l = (k : ℕ) (d : _) → k < l.shard → All (λ count. count ≡ 0) (slice_index_or l.counts k d).items
