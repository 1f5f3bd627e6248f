use Rattle.thread_runner.proofs.Names.{subst, sym, carried_by, AreFresh, AreKnown}
use Rattle.thread_runner.proofs.Following.{IsDiaryOf-tracked}
use Rattle.thread_runner.proofs.worker.Worker.taken_apart.Goals as goal

pub returns-clause-diary : goal.returns-clause-diary
returns-clause-diary g c given kept =
    let text = c.args.self.text.now in
    let caller = c.args.self.caller in
    let all = rw (c.thread.ensures, c.args.self.reads) at (c.has_no_line_after.ensures text.trace.now.lines.items text.laid c.if-not-has_no_line_after.false) in
    let none : AreFresh caller.fresh.items given = subst (λ f. AreFresh f given) (sym (c.has_none_fresh.ensures c.if-not-has_none_fresh.false)) tt in
    rw c.taken_apart.ensures (IsDiaryOf-tracked g.J.Reading.lines g.J.Reading.shown
    (AreKnown g.K.Known.kept caller.fresh.items) given caller.seat.worker c.args.self.done g.K.Known.section caller.diary
    (carried_by caller.seat) all c.requires (kept, none) c.args.self.tracks)

pub returns-clause-seat : goal.returns-clause-seat
returns-clause-seat g c = rw c.taken_apart.ensures (λ i. record { rows = c.args.self.rows i; columns = c.args.self.columns i })
