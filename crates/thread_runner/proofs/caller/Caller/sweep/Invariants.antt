use Rattle.thread_runner.proofs.Names.{◌≡◌, ◌-◌, ◌≤◌, seated, TellsFrom, frees_from}
use Rattle.thread_runner.proofs.caller.Caller.sweep.Given as goal

-- the frees so far
abbrev pub invariant-loop-index : goal.invariant-loop-index
invariant-loop-index g l = record {
  told : TellsFrom l.number (frees_from l.first l.fn.indices.start l.index) l.keys.kept.items l.fn.self l.self;
  bound : l.index - l.fn.indices.start ≤ l.fn.indices.end - l.fn.indices.start;
  seat : seated l.self.seat ≡ seated l.fn.self.seat;
}
