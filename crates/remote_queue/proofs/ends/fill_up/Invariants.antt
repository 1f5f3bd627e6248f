use Rattle.std.proofs.Common.{◌≡◌, vec_capacity, vec_len}
use Rattle.remote_queue.proofs.ends.fill_up.Given as goal

abbrev pub invariant-loop : goal.invariant-loop
invariant-loop l = record {
  filled : vec_len l.block ≡ l.counter;
  same : vec_capacity l.block ≡ vec_capacity l.fn.block;
}
