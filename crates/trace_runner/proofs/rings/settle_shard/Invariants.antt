use Rattle.trace_runner.proofs.Names.{map, range_with_len, Settle, UntilNone, Drains, KeepsPlan}
use Rattle.trace_runner.proofs.rings.settle_shard.Given as goal

-- the rings from the workers below this number are empty
abbrev pub invariant-loop-worker : goal.invariant-loop-worker
invariant-loop-worker l = record {
  drains : Drains (map (λ worker. UntilNone (Settle worker l.shard)) (range_with_len 0 l.worker)) l.fn.core l.core l.count;
  shards : KeepsPlan l.fn.core l.core;
}
