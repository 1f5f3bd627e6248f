use Rattle.trace_runner.proofs.Names.{length, pending_at, KeepsPlan}
use Rattle.trace_runner.proofs.Draining.{IsDraining}
use Rattle.trace_runner.proofs.rings.drain.Given as goal

abbrev pub invariant-loop-count : goal.invariant-loop-count
invariant-loop-count l = record {
  drains : IsDraining l.worker l.shard l.fn.core l.core l.count;
  shards : KeepsPlan l.fn.core l.core;
}

abbrev pub decreases-loop-count : goal.decreases-loop-count
decreases-loop-count l = length (pending_at l.core.rings l.worker l.shard)
