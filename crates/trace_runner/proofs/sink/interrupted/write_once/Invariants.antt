use Rattle.trace_runner.proofs.Names.{Keeps}
use Rattle.trace_runner.proofs.sink.interrupted.write_once.Given as goal

-- writes that were interrupted have taken nothing
abbrev pub invariant-loop : goal.invariant-loop
invariant-loop g l = Keeps (g.W.Write.contents l.fn.writer) (g.W.Write.contents l.writer)
