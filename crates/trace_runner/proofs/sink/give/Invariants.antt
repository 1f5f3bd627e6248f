use Rattle.trace_runner.proofs.Names.{◌≡◌, ◌≤◌, ◌-◌, length, take, Appends}
use Rattle.trace_runner.proofs.sink.give.Given as goal

-- the bytes so far went in, and nothing failed
abbrev pub invariant-loop-given : goal.invariant-loop-given
invariant-loop-given g l = record {
  within : l.given ≤ length l.bytes;
  so_far : Appends (g.S.Sink.taken l.fn.sink) (g.S.Sink.taken l.sink) (take l.given l.bytes);
  fine : g.S.Sink.failures l.sink ≡ g.S.Sink.failures l.fn.sink;
}

abbrev pub decreases-loop-given : goal.decreases-loop-given
decreases-loop-given g l = length l.initial.bytes - l.given
