use Rattle.thread_runner.proofs.Names.{◌≡◌, ◌∙◌, ◌+◌, Some, ap, arith, slice_get, subst, sym, take, asked_at, places_of, carried_by, Seated, Tells, Tracks, AreKnown, TellsFrom, TellsLine}
use Rattle.thread_runner.proofs.Following.{Tracks-kept, Tracks-line}
use Rattle.thread_runner.proofs.Places.{line_at-place}
use Rattle.thread_runner.proofs.worker.Worker.run.Goals as goal

pub loop-init : goal.loop-init
loop-init g c =
    let caller = c.args.self.caller in
    record {
      tracks = Tracks-kept _ _ _ _ _ _ _ _ _ _ _ (ap (λ (s : Seated). s.worker) c.reserve.ensures.seat) c.in_ok-reserve.ensures.told c.reserve.ensures.carried
          (subst (λ f. Tracks g.J.Reading.lines g.J.Reading.shown (AreKnown g.K.Known.kept f.items) caller.seat.worker c.args.self.done
          g.K.Known.section caller.diary (carried_by caller.seat)) (sym c.reserve.ensures.fresh) c.args.self.tracks);
      section = ap (λ (s : Seated). s.section) c.reserve.ensures.seat ∙ c.args.self.section;
      rows = ap (λ (s : Seated). s.table.rows) c.reserve.ensures.seat ∙ c.args.self.rows;
      columns = ap (λ (s : Seated). s.table.columns) c.reserve.ensures.seat ∙ c.args.self.columns;
    }

pub loop-preserved : goal.loop-preserved
loop-preserved g c =
    let text = c.args.self.text.now in
    let lines = g.J.Reading.lines in
    let kept = g.K.Known.kept in
    let told = c.args.told.now in
    let place = c.in-Some.place in
    let worker = c.loop.caller.seat.worker in
    let old = c.loop.caller in
    let new = c.line.new.self in
    let next = rw c.thread-in-loop.ensures at (c.in-Some.ensures.place text.trace.now.lines.items text.laid) in
    let (l, here, own) = line_at-place worker text.trace.now.lines.items c.loop.done place next in
    let known = subst (λ k. TellsLine text place l k old new) told.known (c.in_ok-line.ensures.told l here) in
    let of_trace = subst (λ ls. TellsFrom (place + 6) (asked_at (take place ls) l) kept old new) c.args.self.reads known in
    let of_section = subst (λ n. Tells n worker (place + 6) (asked_at (take place lines) l) (AreKnown kept old.fresh.items)
    (AreKnown kept new.fresh.items) old.diary new.diary (carried_by old.seat) (carried_by new.seat)) c.loop.invariant.section of_trace in
    record {
      tracks = Tracks-line _ _ _ _ _ _ _ _ place l _ _ _ _ (ap (λ (s : Seated). s.worker) c.line.ensures.seat)
          (sym (told.one place (omega (arith, c.if-place-told.false)) c.in-Some.ensures.above)) (subst (λ ls. slice_get (places_of worker ls) c.loop.done ≡ Some place) c.args.self.reads next)
          (subst (λ ls. slice_get ls place ≡ Some l) c.args.self.reads here) own (c.in_ok-line.ensures.call l here) of_section c.loop.invariant.tracks;
      section = ap (λ (s : Seated). s.section) c.line.ensures.seat ∙ c.loop.invariant.section;
      rows = ap (λ (s : Seated). s.table.rows) c.line.ensures.seat ∙ c.loop.invariant.rows;
      columns = ap (λ (s : Seated). s.table.columns) c.line.ensures.seat ∙ c.loop.invariant.columns;
    }
