use Rattle.trace_runner.proofs.Names.{map, range_with_len, Tends, News, Carries, KeepsPlan}
use Rattle.trace_runner.proofs.rings.settle_rings.Given as goal

-- the rings to the shards below this number are empty
abbrev pub invariant-loop-shard : goal.invariant-loop-shard
invariant-loop-shard l = record {
  made : (news : News) → Carries (map (λ shard. Tends l.shards shard) (range_with_len 0 l.shard)) l.fn.core news l.core news;
  shards : KeepsPlan l.fn.core l.core;
}
