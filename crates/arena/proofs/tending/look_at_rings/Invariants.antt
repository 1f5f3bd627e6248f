use mathlib.Core.List.{IsPrefix}
use Rattle.std.proofs.Common.{◌≡◌, ◌<◌, ◌≤◌, ◌*◌, ℕ, slice_index_or, sum_by, take, vec_len}
use Rattle.arena.specs.Settled.{taking_side}
use Rattle.arena.specs.Tended.{known_count}
use Rattle.arena.proofs.tending.look_at_rings.Given as goal

abbrev pub invariant-loop-from : goal.invariant-loop-from
invariant-loop-from l = record {
  wide : vec_len l.inboxes ≡ vec_len l.fn.inboxes;
  same : taking_side l.inboxes.items ≡ taking_side l.fn.inboxes.items;
  rest : (k : ℕ) (d : _) → l.from ≤ k → slice_index_or l.inboxes.items k d ≡ slice_index_or l.fn.inboxes.items k d;
  seen : (k : ℕ) (d e : _) → k < l.from → IsPrefix (slice_index_or l.fn.inboxes.items k d).known (slice_index_or l.inboxes.items k e).known;
  few : l.count ≤ l.from * l.most;
  counted : l.count ≡ sum_by (known_count l.most) (take l.from l.inboxes.items);
}
