use Rattle.trace_runner.proofs.Names.{◌≡◌, filter, length, take, is_adopt}
use Rattle.trace_runner.proofs.run.adoptions.Given as goal

-- the adoptions so far
abbrev pub invariant-loop-place : goal.invariant-loop-place
invariant-loop-place l = l.count ≡ length (filter is_adopt (take l.place l.lines.items))
