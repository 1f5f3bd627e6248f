use Rattle.thread_runner.proofs.Names.{◌∙◌, ◌+◌, ap, subst, sym, Table, GivenKeys, carried_by, Tracks, AreKnown}
use Rattle.thread_runner.proofs.Following.{Tracks-known}
use Rattle.thread_runner.proofs.worker.Settled.rested.Goals as goal

pub returns-clause-rests : goal.returns-clause-rests
returns-clause-rests g c =
    let worker = c.args.self in
    let later = c.go_on.new.self in
    let lines = g.J.Reading.lines in
    let shown = g.J.Reading.shown in
    let next = g.K.Known.section + 1 in
    let knows : GivenKeys → Type 0 = AreKnown g.K.Known.kept c.go_on.new.latest.items in
    record {
      rows_are = ap (λ (t : Table). t.rows) c.go_on.ensures.table ∙ worker.rows;
      columns_are = ap (λ (t : Table). t.columns) c.go_on.ensures.table ∙ worker.columns;
      section_is = c.in_ok-go_on.ensures.section ∙ ap (λ n. n + 1) worker.section;
      tracks = subst (λ r. Tracks lines shown knows later.seat.worker worker.done next later.diary r) (sym c.go_on.ensures.carried)
          (subst (λ d. Tracks lines shown knows later.seat.worker worker.done next d (carried_by worker.caller.seat)) (sym c.go_on.ensures.diary)
          (subst (λ t. Tracks lines shown knows t worker.done next worker.caller.diary (carried_by worker.caller.seat)) (sym c.go_on.ensures.thread)
          (Tracks-known lines shown (AreKnown g.K.Known.kept worker.caller.fresh.items) knows worker.caller.seat.worker worker.done next worker.caller.diary (carried_by worker.caller.seat)
          (λ given are. (are.0, c.in_ok-go_on.ensures.kept given are.1)) worker.tracks)));
    }
