use Rattle.std.proofs.Common.{◌≡◌, ◌<◌, ◌≤◌, ℕ, length, slice_index_or, vec_len, vec_capacity}
use Rattle.arena.specs.Settled.{AreCounted, AreSameSeats}
use Rattle.arena.proofs.counting.count_all.Given as goal

abbrev pub invariant-loop-shard : goal.invariant-loop-shard
invariant-loop-shard l = record {
  len : vec_len l.counts ≡ l.shard;
  room : length l.fn.seats ≤ vec_capacity l.counts;
  wide : length l.seats ≡ length l.fn.seats;
  same : AreSameSeats l.fn.seats l.seats;
  counted : (s : ℕ) (d : _) → s < l.shard → AreCounted l.fn.seats l.seats s (slice_index_or l.counts.items s d).items;
}
