use Rattle.std.proofs.Common.{◌≡◌, ◌≤◌, ◌+◌, vec_len, vec_capacity}
use Rattle.arena_core.specs.Filled.{filled}
use Rattle.arena_core.specs.Rings.{new_ring}
use Rattle.arena_core.proofs.rings.add_rings.Given as goal

abbrev pub invariant-loop : goal.invariant-loop
invariant-loop l = record {
  same : filled l.workers (new_ring l.capacity) l.rings.items ≡ filled l.workers (new_ring l.capacity) l.initial.rings.items;
  len : vec_len l.rings ≡ vec_len l.initial.rings + l.counter;
  room : vec_len l.initial.rings + l.count ≤ vec_capacity l.rings;
}
