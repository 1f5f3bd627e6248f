use Rattle.thread_runner.proofs.Names.{◌≡◌, AllByRecursion, GivenKeys, AreDiaries, AreKept}
use Rattle.thread_runner.proofs.run.seats_and_diaries.Given as goal

-- the diaries of the threads so far, and the seats of the arena
abbrev pub invariant-loop-thread : goal.invariant-loop-thread
invariant-loop-thread g l = record {
  diaries : (given : GivenKeys) → AreKept g.K.Known.kept given → AreDiaries g.J.Reading.lines g.J.Reading.shown given l.thread l.seats.items l.diaries.items;
  seats : AllByRecursion (λ seat. seat.table ≡ g.J.Reading.table) l.seats.items;
}
