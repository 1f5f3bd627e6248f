use Rattle.thread_runner.proofs.Names.{◌≡◌, barrier_from}
use Rattle.thread_runner.proofs.run.barrier_of.Given as goal

-- no barrier begins so far
abbrev pub invariant-loop-place : goal.invariant-loop-place
invariant-loop-place l = barrier_from l.lines.items l.from ≡ barrier_from l.lines.items l.place
