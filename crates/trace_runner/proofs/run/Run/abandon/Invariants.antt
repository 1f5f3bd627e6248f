use Rattle.trace_runner.proofs.Names.{◌≡◌, filter, range_with_len, News, Carries, EndsBelow, has, ends_asked}
use Rattle.trace_runner.proofs.run.Run.abandon.Given as goal

-- the shards below this number are abandoned
abbrev pub invariant-loop-shard : goal.invariant-loop-shard
invariant-loop-shard l = record {
  made : (news : News) → Carries (ends_asked (filter (has l.fn.self.leaving) (range_with_len 0 l.shard-counter))) l.fn.self.core news l.self.core news;
  shards : EndsBelow l.fn.self.core l.shard-counter (has l.fn.self.leaving) l.self.core;
  plan : l.self.core.plan ≡ l.fn.self.core.plan;
  plans : l.self.plans ≡ l.fn.self.plans;
  replies : l.self.replies ≡ l.fn.self.replies;
  leaving : l.self.leaving ≡ l.fn.self.leaving;
  trace : l.self.trace.now ≡ l.fn.self.trace.now;
}
