use Rattle.trace_runner.proofs.Names.{◌≡◌, ◌-◌, ◌≤◌, ℕ, List, KeepsPlan, Did, KeepsAll, MakesAt, frees_in}
use Rattle.trace_runner.proofs.run.Run.sweep.Given as goal

abbrev pub invariant-loop-place : goal.invariant-loop-place
invariant-loop-place l = record {
  made : (done : List Did) (name : List ℕ) → KeepsAll l.fn.self done l.fn.first name l.fn.from l.fn.to
      → MakesAt l.number (frees_in l.fn.self done name l.fn.from l.place) l.fn.self l.self;
  bound : l.place - l.fn.from ≤ l.fn.to - l.fn.from;
  keys : l.self.replies.keys ≡ l.fn.self.replies.keys;
  trace : l.self.trace.now ≡ l.fn.self.trace.now;
  leaving : l.self.leaving ≡ l.fn.self.leaving;
  shards : KeepsPlan l.fn.self.core l.self.core;
  plans : l.self.plans ≡ l.fn.self.plans;
}
