use Rattle.thread_runner.proofs.Names.{◌∙◌, ap, subst, sym, SeatState, carried_by, HaveNothing, AreKept}
use Rattle.thread_runner.proofs.Following.{Tracks-none}
use Rattle.thread_runner.proofs.worker.Resting.new.Goals as goal

pub returns : goal.returns
returns g c kept unused =
    let text = c.args.text.now in
    let caller = c.in_ok-caller.caller in
    let same = c.in_ok-caller.ensures.seat in
    record {
      rows_are = ap (λ (s : SeatState). s.table.rows) same;
      columns_are = ap (λ (s : SeatState). s.table.columns) same;
      section_is = ap (λ (s : SeatState). s.section) same ∙ unused.0;
      tracks = Tracks-none text.trace.now.lines.items text.replies (AreKept kept) caller.seat.worker caller.diary
          (carried_by caller.seat) c.in_ok-caller.ensures.diary (subst (λ s. HaveNothing (carried_by s)) (sym same) unused.1);
    }
