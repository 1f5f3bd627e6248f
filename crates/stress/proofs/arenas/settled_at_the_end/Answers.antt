use Rattle.std.proofs.Common.{drop, length, rules, subst, sym}
use Rattle.arena.specs.Seats.{AreSeatsOf}
use Rattle.arena.proofs.Ended.{written_back}
use Rattle.stress.proofs.arenas.settled_at_the_end.Goals as goal

pub leaves_one-requires-clause-seats : goal.leaves_one-requires-clause-seats
leaves_one-requires-clause-seats g c = rw c.as_mut_slice.ensures.value c.in-Ok.ensures.seats

pub finish-requires-clause-seats : goal.finish-requires-clause-seats
finish-requires-clause-seats g c =
    let old = c.in-Ok.seats in
    let new = c.leaves_one.new.seats in
    subst (AreSeatsOf c.in-Ok.arena.limits c.in-Ok.arena.table) (sym (written_back old.len new (drop (length new) old.items) (search rules))) c.leaves_one.ensures.seats
