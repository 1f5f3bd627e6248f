use Rattle.trace_runner.proofs.Names.{◌≡◌, kept_in, HasCome, has}
use Rattle.trace_runner.proofs.run.run_lines.Given as goal

abbrev pub invariant-loop-place : goal.invariant-loop-place
invariant-loop-place g l = record {
  trace : l.run.trace.now ≡ l.trace;
  come : HasCome l.replies l.trace.header.shards l.trace.lines.items l.place l.fn.core l.run.core (kept_in l.run.replies) (has l.run.leaving) l.run.plans;
}
