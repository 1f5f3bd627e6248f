use Rattle.thread_runner.proofs.Names.{◌∙◌, ap, subst, sym, carried_by, Seated, TellsTending, Tracks, AreKnown}
use Rattle.thread_runner.proofs.Following.{Tracks-barrier}
use Rattle.thread_runner.proofs.worker.SentOff.settled.Goals as goal

pub invariant_of-result : goal.invariant_of-result
invariant_of-result g c =
    let worker = c.args.self.worker in
    let old = worker.caller in
    let later = c.settle.new.self in
    let count = c.in_ok-settle.field-0 in
    record {
      rows = ap (λ (s : Seated). s.table.rows) c.settle.ensures.seat ∙ worker.rows;
      columns = ap (λ (s : Seated). s.table.columns) c.settle.ensures.seat ∙ worker.columns;
      reads = worker.reads;
      section = ap (λ (s : Seated). s.section) c.settle.ensures.seat ∙ worker.section;
      tracks = Tracks-barrier _ _ _ _ _ _ _ count _ _ _ _ (ap (λ (s : Seated). s.worker) c.settle.ensures.seat)
          (subst (λ n. TellsTending n old.seat.worker count old.diary later.diary (carried_by old.seat) (carried_by later.seat)) worker.section c.in_ok-settle.ensures.told)
          (subst (λ f. Tracks g.J.Reading.lines g.J.Reading.shown (AreKnown g.K.Known.kept f.items) old.seat.worker worker.done g.K.Known.section old.diary (carried_by old.seat))
          (sym c.settle.ensures.fresh) worker.tracks);
    }
