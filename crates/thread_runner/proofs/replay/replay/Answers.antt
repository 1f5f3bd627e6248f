use Rattle.thread_runner.proofs.Names.{◌≡◌, SeatState, carried_by, HaveNothing}
use Rattle.thread_runner.proofs.Carrying.{HaveNothing-fresh}
use Rattle.thread_runner.proofs.Each.{each-All, each-first}
use Rattle.thread_runner.proofs.replay.replay.Goals as goal

pub replay_at-requires-clause-seats : goal.replay_at-requires-clause-seats
replay_at-requires-clause-seats g c κs within =
    let opened = c.in-Ok in
    each-first opened.arena.limits (λ (seat : SeatState). seat.table ≡ opened.arena.table) (λ (seat : SeatState). HaveNothing (carried_by seat)) opened.seats.items _ opened.ensures.standing
    (each-All (λ (seat : SeatState). seat.table ≡ opened.arena.table) opened.seats.items opened.ensures.seats.of_table) (HaveNothing-fresh _ opened.seats.items opened.ensures.fresh)
