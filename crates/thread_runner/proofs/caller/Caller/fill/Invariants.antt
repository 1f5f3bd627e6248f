use Rattle.thread_runner.proofs.Names.{◌≡◌, List, Given, seated, TellsFrom, puts_from}
use Rattle.thread_runner.proofs.caller.Caller.fill.Given as goal

-- the puts so far
abbrev pub invariant-loop-i : goal.invariant-loop-i
invariant-loop-i g l = record {
  told : (kept : List Given) → TellsFrom l.number (puts_from l.first l.class l.i l.value) kept l.fn.self l.self;
  seat : seated l.self.seat ≡ seated l.fn.self.seat;
}
