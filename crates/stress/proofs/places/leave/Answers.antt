use Rattle.arena.proofs.SeatRings.{AreSeatsOf-set}
use Rattle.stress.proofs.places.leave.Goals as goal

pub returns-clause-seats : goal.returns-clause-seats
returns-clause-seats c = AreSeatsOf-set c.args.arena.now.limits c.args.arena.now.table c.args.seats.now c.args.worker c.free_later.new.self _ c.free_later.ensures.seat.0 c.requires
