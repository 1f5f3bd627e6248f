use Rattle.thread_runner.proofs.Names.{take, GivenKeys, AreFresh, AreKept}
use Rattle.thread_runner.proofs.keys.Keys.with_all.Given as goal

-- what was kept before, and those so far
abbrev pub invariant-loop-one : goal.invariant-loop-one
invariant-loop-one l = record {
  before : (given : GivenKeys) → AreKept l.keys.kept.items given → AreKept l.fn.self.kept.items given;
  kept : (given : GivenKeys) → AreKept l.keys.kept.items given → AreFresh (take l.one-index l.latest) given;
}
