use Rattle.std.proofs.Common.{◌≡◌, ◌<◌, ℕ, slice_index_or}
use Rattle.remote_queue.specs.Rings.{Sending}
use Rattle.arena.specs.Delays.{KeepSent}
use Rattle.arena.proofs.outboxes.hand_over_all.Given as goal

abbrev pub invariant-loop-shard : goal.invariant-loop-shard
invariant-loop-shard l = record {
  kept : KeepSent l.fn.ends.items l.ends.items;
  none : (k : ℕ) (d : Sending) → k < l.shard → (slice_index_or l.ends.items k d).waiting ≡ 0;
}
