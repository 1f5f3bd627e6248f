use Rattle.std.proofs.Common.{drop, length, rules, subst, sym}
use Rattle.arena.specs.Seats.{AreSeatsOf}
use Rattle.arena.proofs.Ended.{written_back}
use Rattle.stress.proofs.places.left.Goals as goal

pub spread-requires : goal.spread-requires
spread-requires g c = rw c.as_mut_slice.ensures.value c.in-Ok.ensures.seats

pub finish_again-requires-clause-seats : goal.finish_again-requires-clause-seats
finish_again-requires-clause-seats g c =
    let old = c.in-Ok.seats in
    let new = c.spread.new.seats in
    subst (AreSeatsOf c.in-Ok.arena.limits c.in-Ok.arena.table) (sym (written_back old.len new (drop (length new) old.items) (search rules))) c.spread.ensures.seats
