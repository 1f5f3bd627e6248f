use Rattle.std.proofs.Common.{◌≡◌, ◌<◌, ◌≤◌, ℕ, length, map, slice_index_or}
use Rattle.arena.specs.Receipts.{AddsFrees, joined}
use Rattle.arena.specs.Seats.{in_rings, known_lists, sending_side, taken_lists}
use Rattle.arena.specs.Settled.{taken_with_known}
use Rattle.arena.proofs.settling.settle_seats.Given as goal

abbrev pub invariant-loop-shard : goal.invariant-loop-shard
invariant-loop-shard g l = record {
  wide : length l.seats ≡ length l.fn.seats;
  seats_left : (k : ℕ) (d : _) → l.shard ≤ k → slice_index_or l.seats k d ≡ slice_index_or l.fn.seats k d;
  lists_left : (k : ℕ) (d : _) → l.shard ≤ k → slice_index_or l.receipts k d ≡ slice_index_or l.fn.receipts k d;
  sending : map sending_side l.seats ≡ map sending_side l.fn.seats;
  tables : map (λ seat. seat.table) l.seats ≡ map (λ seat. seat.table) l.fn.seats;
  outboxes : map (λ seat. seat.outboxes) l.seats ≡ map (λ seat. seat.outboxes) l.fn.seats;
  rings : map in_rings l.seats ≡ map in_rings l.fn.seats;
  taken : (k : ℕ) (d e : _) → k < l.shard → taken_lists (slice_index_or l.seats k d).inboxes ≡ taken_with_known (slice_index_or l.fn.seats k e).inboxes;
  done : (k : ℕ) (x d e : _) → k < l.shard
      → AddsFrees k l.section (joined (known_lists (slice_index_or l.fn.seats k x).inboxes)) (g.K.Receipts.told (slice_index_or l.fn.receipts k d))
      (g.K.Receipts.told (slice_index_or l.receipts k e));
}
