use Rattle.thread_runner.proofs.Names.{◌≡◌, ◌∷◌, [], arith, subst, SeatState, each-append, carried_by, AreDiaries, IsDiaryOf}
use Rattle.thread_runner.proofs.Counting.{AreDiaries-push}
use Rattle.thread_runner.proofs.run.seats_and_diaries.Goals as goal

pub loop-thread-preserved : goal.loop-thread-preserved
loop-thread-preserved g c = record {
  diaries = λ given kept.
      let of_thread = subst (λ n. IsDiaryOf g.J.Reading.lines g.J.Reading.shown given n c.in_ok-seat.diary (carried_by c.in_ok-seat.seat))
      c.in_ok-worker.ensures (c.in_ok-seat.ensures.diary given kept) in
      rw (c.in_ok-push.ensures.items, c.in_ok-push-2.ensures.items)
      (AreDiaries-push g.J.Reading.lines g.J.Reading.shown given c.loop-thread.thread c.loop-thread.seats.items c.loop-thread.diaries.items
      c.in_ok-seat.seat c.in_ok-seat.diary
      (c.loop-thread.invariant.diaries given kept) of_thread);
  seats = rw c.in_ok-push.ensures.items
      (each-append (λ (seat : SeatState). seat.table ≡ g.J.Reading.table) c.loop-thread.seats.items (c.in_ok-seat.seat ∷ []) c.loop-thread.invariant.seats
      (c.in_ok-seat.ensures.seat, tt));
}

pub returns-clause-diaries : goal.returns-clause-diaries
returns-clause-diaries g c given kept =
    let all : c.loop-thread.thread ≡ c.args.threads = omega arith in
    subst (λ n. AreDiaries g.J.Reading.lines g.J.Reading.shown given n c.loop-thread.seats.items c.loop-thread.diaries.items) all (c.loop-thread.invariant.diaries given kept)
