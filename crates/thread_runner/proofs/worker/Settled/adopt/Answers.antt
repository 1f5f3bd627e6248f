use Rattle.thread_runner.proofs.Names.{◌≡◌, ◌∙◌, ◌+◌, Some, ap, slice_get, subst, sym, places_of, carried_by, Seated, Tracks, AreKnown}
use Rattle.thread_runner.proofs.Following.{Tracks-adoption}
use Rattle.thread_runner.proofs.Places.{line_at-place}
use Rattle.thread_runner.proofs.worker.Settled.adopt.Goals as goal

pub invariant_of-result : goal.invariant_of-result
invariant_of-result g c =
    let text = c.args.self.text.now in
    let lines = g.J.Reading.lines in
    let place = c.args.place in
    let done = c.args.self.done in
    let old = c.args.self.caller in
    let worker = old.seat.worker in
    let there = rw (c.thread.ensures, c.args.self.reads) at (c.in-Some.ensures.place text.trace.now.lines.items text.laid) in
    let next : slice_get (places_of worker lines) done ≡ Some place = there ∙ ap Some c.if-next-place.false in
    let (l, here, own) = line_at-place worker lines done place next in
    record {
      rows = ap (λ (s : Seated). s.table.rows) c.adopt.ensures.seat ∙ c.args.self.rows;
      columns = ap (λ (s : Seated). s.table.columns) c.adopt.ensures.seat ∙ c.args.self.columns;
      reads = c.args.self.reads;
      section = ap (λ (s : Seated). s.section) c.adopt.ensures.seat ∙ c.args.self.section;
      tracks = Tracks-adoption _ _ _ _ _ _ _ place l _ _ _ _ (ap (λ (s : Seated). s.worker) c.adopt.ensures.seat) c.adopt.ensures.carried (sym c.requires.section) next here own
          (c.requires.adopts l here) c.in_ok-adopt.ensures.told
          (subst (λ f. Tracks lines g.J.Reading.shown (AreKnown g.K.Known.kept f.items) worker done (g.K.Known.section + 1) old.diary (carried_by old.seat))
          (sym c.adopt.ensures.fresh) c.args.self.tracks);
    }
