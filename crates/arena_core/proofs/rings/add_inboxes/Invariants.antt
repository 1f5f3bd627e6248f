use Rattle.std.proofs.Common.{◌≡◌, ◌≤◌, ◌+◌, replicate, vec_len, vec_capacity}
use Rattle.arena_core.specs.Filled.{filled}
use Rattle.arena_core.specs.Rings.{new_ring}
use Rattle.arena_core.proofs.rings.add_inboxes.Given as goal

abbrev pub invariant-loop : goal.invariant-loop
invariant-loop l = record {
  same : filled l.shards (replicate l.shards (new_ring l.capacity)) l.inboxes.items ≡ filled l.shards (replicate l.shards (new_ring l.capacity)) l.initial.inboxes.items;
  len : vec_len l.inboxes ≡ vec_len l.initial.inboxes + l.counter;
  room : vec_len l.initial.inboxes + l.count ≤ vec_capacity l.inboxes;
}
