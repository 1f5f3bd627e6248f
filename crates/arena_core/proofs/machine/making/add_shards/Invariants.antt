use Rattle.std.proofs.Common.{◌≡◌, ◌≤◌, vec_capacity, vec_len}
use Rattle.arena_core.specs.Made.{all_shards}
use Rattle.arena_core.proofs.machine.making.add_shards.Given as goal

abbrev pub invariant-loop-number : goal.invariant-loop-number
invariant-loop-number g l = record {
  same : all_shards l.limits l.shards.items ≡ all_shards l.limits l.initial.shards.items;
  len : vec_len l.shards ≡ l.number;
  room : l.end ≤ vec_capacity l.shards;
}
