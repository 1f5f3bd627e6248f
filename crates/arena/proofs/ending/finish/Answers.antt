use Rattle.std.proofs.Common.{◌∙◌, subst, sym}
use Rattle.arena.specs.Seats.{AreLinked, AreSeatsOf, sending_side}
use Rattle.arena.specs.Settled.{AreSameSeats}
use Rattle.arena.proofs.Ended.{written_back}
use Rattle.arena.proofs.Linking.{same_length}
use Rattle.arena.proofs.SeatRings.{AreSeatsOf-same}
use Rattle.arena.proofs.ending.finish.Goals as goal

pub returns-in-Ok-clause-settled : goal.returns-in-Ok-clause-settled
returns-in-Ok-clause-settled g c = rw c.as_mut_slice.ensures.value at c.in-Ok.ensures.settled

pub returns-in-Err-clause-seats : goal.returns-in-Err-clause-seats
returns-in-Err-clause-seats g c =
    let same = rw c.as_mut_slice.ensures.value at c.in-Err.ensures.err in
    let long = same_length sending_side c.args.seats.items c.settled.new.seats same.0.sending in
    rw (c.in-Err.ensures.arena.0, c.in-Err.ensures.arena.1)
    (subst (AreSeatsOf c.args.arena.limits c.args.arena.table) (sym (written_back c.args.seats.len c.settled.new.seats _ (c.args.seats.ok.0 ∙ sym long)))
    (AreSeatsOf-same c.args.arena.limits c.args.arena.table c.args.seats.items c.settled.new.seats same.0.sending same.0.tables c.requires.seats))

pub returns-in-Err-clause-same : goal.returns-in-Err-clause-same
returns-in-Err-clause-same g c =
    let same = rw c.as_mut_slice.ensures.value at c.in-Err.ensures.err in
    let long = same_length sending_side c.args.seats.items c.settled.new.seats same.0.sending in
    subst (AreSameSeats c.args.seats.items) (sym (written_back c.args.seats.len c.settled.new.seats _ (c.args.seats.ok.0 ∙ sym long))) same.0

pub returns-in-Err-clause-linked : goal.returns-in-Err-clause-linked
returns-in-Err-clause-linked g c =
    let same = rw c.as_mut_slice.ensures.value at c.in-Err.ensures.err in
    let long = same_length sending_side c.args.seats.items c.settled.new.seats same.0.sending in
    subst AreLinked (sym (written_back c.args.seats.len c.settled.new.seats _ (c.args.seats.ok.0 ∙ sym long))) c.in-Err.ensures.linked

pub returns-in-Ok-clause-rings : goal.returns-in-Ok-clause-rings
returns-in-Ok-clause-rings g c = rw c.as_mut_slice.ensures.value at c.in-Ok.ensures.rings
