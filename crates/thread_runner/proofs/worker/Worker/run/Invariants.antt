use Rattle.thread_runner.proofs.Names.{◌≡◌, carried_by, Tracks, AreKnown}
use Rattle.thread_runner.proofs.worker.Worker.run.Given as goal

-- what it was told so far is what came of the lines that it has run
abbrev pub invariant-loop : goal.invariant-loop
invariant-loop g l = record {
  tracks : Tracks g.J.Reading.lines g.J.Reading.shown (AreKnown g.K.Known.kept l.caller.fresh.items) l.caller.seat.worker l.done g.K.Known.section l.caller.diary (carried_by l.caller.seat);
  section : l.caller.seat.section ≡ g.K.Known.section;
  rows : l.caller.seat.table.rows ≡ g.J.Reading.table.rows;
  columns : l.caller.seat.table.columns ≡ g.J.Reading.table.columns;
}
