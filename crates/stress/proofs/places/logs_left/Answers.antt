use Rattle.std.proofs.Common.{drop, length, rules, subst, sym}
use Rattle.arena.specs.Seats.{AreSeatsOf}
use Rattle.arena.proofs.Ended.{written_back}
use Rattle.stress.proofs.places.logs_left.Goals as goal

pub finish_again-requires-clause-seats : goal.finish_again-requires-clause-seats
finish_again-requires-clause-seats g c =
    let old = c.in-Ok.seats in
    let new = c.empties_one.new.seats in
    subst (AreSeatsOf c.in-Ok.arena.limits c.in-Ok.arena.table) (sym (written_back old.len new (drop (length new) old.items) (search rules))) (c.in_ok-emptied.ensures.seats)
