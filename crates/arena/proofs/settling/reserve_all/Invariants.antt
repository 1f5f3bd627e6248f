use Rattle.std.proofs.Common.{◌≡◌, ◌<◌, ◌≤◌, ℕ, map, sum, slice_index_or}
use Rattle.arena.proofs.settling.reserve_all.Given as goal

abbrev pub invariant-loop-shard : goal.invariant-loop-shard
invariant-loop-shard g l = record {
  told : map g.K.Receipts.told l.receipts ≡ map g.K.Receipts.told l.fn.receipts;
  room : (k : ℕ) (d e : _) → k < l.shard → sum (slice_index_or l.counts k e).items ≤ g.K.Receipts.room (slice_index_or l.receipts k d);
}
