use Rattle.thread_runner.proofs.Names.{◌≡◌, ◌∷◌, [], rules, subst, each-append, carried_by, HaveNothing, AreKept, IsResting}
use Rattle.thread_runner.proofs.run.threads_in.Goals as goal

pub loop-seat-preserved-in-Continue-branch-2 : goal.loop-seat-preserved-in-Continue-branch-2
loop-seat-preserved-in-Continue-branch-2 g c =
    let lines = g.J.Reading.lines in
    let one = c.in-Some-new.resting in
    let here : (c.in-Some.seat.table ≡ g.J.Reading.table) × (c.in-Some.seat.section ≡ 0) × HaveNothing (carried_by c.in-Some.seat) = search rules in
    record {
      left = search rules;
      threads = λ kept.
          let rests = c.in-Some-new.ensures kept (here.1, here.2) in
          let of_lines = subst (λ ls. IsResting ls c.args.text.now.replies c.in-Some.seat.table (AreKept kept) 0 one) c.requires.lines rests in
          let of_shown = subst (λ b. IsResting lines b c.in-Some.seat.table (AreKept kept) 0 one) c.requires.shown of_lines in
          let of_table = subst (λ t. IsResting lines g.J.Reading.shown t (AreKept kept) 0 one) here.0 of_shown in
          rw c.in_ok-push.ensures.items
          (each-append (IsResting g.J.Reading.lines g.J.Reading.shown g.J.Reading.table (AreKept kept) 0) c.loop-seat.threads.items (one ∷ []) (c.loop-seat.invariant.threads kept) (of_table, tt));
    }
