use Rattle.thread_runner.proofs.Names.{◌≡◌, List, AllByRecursion, into_iter_items, Given, carried_by, HaveNothing, AreKept, AreResting}
use Rattle.thread_runner.proofs.run.threads_in.Given as goal

-- the seats that are left, and the threads so far
abbrev pub invariant-loop-seat : goal.invariant-loop-seat
invariant-loop-seat g l = record {
  left : AllByRecursion (λ seat. (seat.table ≡ g.J.Reading.table) × (seat.section ≡ 0) × HaveNothing (carried_by seat)) (into_iter_items l.seat-iterator);
  threads : (kept : List Given) → AreResting g.J.Reading.lines g.J.Reading.shown g.J.Reading.table (AreKept kept) 0 l.threads.items;
}
