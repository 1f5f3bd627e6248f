use Rattle.std.proofs.Common.{◌≡◌, ◌<◌, ◌≤◌, ◌++◌, ℕ, map, take, drop, sum, slice_index_or, vec_len}
use Rattle.arena.specs.Receipts.{AddsFrees, joined}
use Rattle.arena.specs.Seats.{known_lists}
use Rattle.arena.proofs.settling.settle_rings.Given as goal

abbrev pub invariant-loop-from : goal.invariant-loop-from
invariant-loop-from g l = record {
  wide : vec_len l.inboxes ≡ vec_len l.fn.inboxes;
  rest : (k : ℕ) (d : _) → l.from ≤ k → slice_index_or l.inboxes.items k d ≡ slice_index_or l.fn.inboxes.items k d;
  rings : map (λ inbox. inbox.ring) l.inboxes.items ≡ map (λ inbox. inbox.ring) l.fn.inboxes.items;
  taken : (k : ℕ) (d e : _) → k < l.from → (slice_index_or l.inboxes.items k d).taken ≡ (slice_index_or l.fn.inboxes.items k e).taken ++ (slice_index_or l.fn.inboxes.items k e).known;
  room : sum (drop l.from l.counts) ≤ g.K.Receipts.room l.receipts;
  freed : AddsFrees l.worker l.section (joined (take l.from (known_lists l.fn.inboxes.items))) (g.K.Receipts.told l.fn.receipts) (g.K.Receipts.told l.receipts);
}
