use Rattle.std.proofs.Common.{◌-◌, ◌≤◌, ℕ, max, vec_len}
use Rattle.shard.specs.Rooms.{IsNoLess, set_at}
use Rattle.shard.proofs.set_lists.extend.Given as goal

abbrev pub invariant-loop-alloc : goal.invariant-loop-alloc
invariant-loop-alloc l = record {
  no_less : (n : ℕ) → IsNoLess (set_at l.fn.sets.items n) (set_at l.sets.items n);
  longer : vec_len l.fn.sets ≤ vec_len l.sets;
  few : vec_len l.sets ≤ max (vec_len l.fn.sets) l.count;
}

abbrev pub decreases-loop-alloc : goal.decreases-loop-alloc
decreases-loop-alloc l = l.count - vec_len l.sets
