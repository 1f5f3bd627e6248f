use Rattle.thread_runner.proofs.Names.{◌≡◌, ◌<◌, ℕ, slice_index_or}
use Rattle.thread_runner.proofs.replay.was_empty.Given as goal

abbrev pub invariant-loop-from : goal.invariant-loop-from
invariant-loop-from l = (k : ℕ) (d : ℕ) → k < l.from → slice_index_or l.counts k d ≡ 0
