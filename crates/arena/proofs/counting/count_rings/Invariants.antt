use Rattle.std.proofs.Common.{◌≡◌, ◌<◌, ◌≤◌, ◌++◌, ℕ, [], length, map, slice_index_or, vec_len, vec_capacity}
use Rattle.arena.specs.Seats.{KeepPlaces, known_lists, sending_side, sent_lists, taken_lists}
use Rattle.arena.specs.Settled.{taking_side}
use Rattle.remote_queue.specs.declared.ends.TheConstants.{MOST_KNOWN_KEYS}
use Rattle.arena.proofs.counting.count_rings.Given as goal

abbrev pub invariant-loop-from : goal.invariant-loop-from
invariant-loop-from l = record {
  len : vec_len l.counts ≡ l.from;
  room : length l.seats ≤ vec_capacity l.counts;
  wide : vec_len l.inboxes ≡ length l.seats;
  sending : map sending_side l.seats ≡ map sending_side l.fn.seats;
  tables : map (λ s. s.table) l.seats ≡ map (λ s. s.table) l.fn.seats;
  places : KeepPlaces l.fn.seats l.seats;
  idle : map (λ s. s.inboxes) l.seats ≡ map (λ s. s.inboxes) l.fn.seats;
  taking : taking_side l.inboxes.items ≡ taking_side l.fn.inboxes.items;
  counted : (k : ℕ) → k < l.from → slice_index_or l.counts.items k 0 ≡ length (slice_index_or (known_lists l.inboxes.items) k []);
  few : (k : ℕ) → k < l.from → slice_index_or l.counts.items k 0 ≤ MOST_KNOWN_KEYS;
  whole : (k : ℕ) → k < l.from → slice_index_or (slice_index_or (map sent_lists l.fn.seats) k []) l.shard []
      ≡ slice_index_or (taken_lists l.fn.inboxes.items) k [] ++ slice_index_or (known_lists l.inboxes.items) k [];
}
