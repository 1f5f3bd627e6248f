use Rattle.trace_runner.proofs.Names.{◌≡◌, KeepsPlan, MakesAt, puts_asked}
use Rattle.trace_runner.proofs.run.Run.fill.Given as goal

abbrev pub invariant-loop-i : goal.invariant-loop-i
invariant-loop-i l = record {
  made : MakesAt l.number (puts_asked l.thread l.class l.i l.value) l.fn.self l.self;
  trace : l.self.trace.now ≡ l.fn.self.trace.now;
  leaving : l.self.leaving ≡ l.fn.self.leaving;
  shards : KeepsPlan l.fn.self.core l.self.core;
  plans : l.self.plans ≡ l.fn.self.plans;
}
