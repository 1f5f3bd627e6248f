use Rattle.arena.proofs.SeatRings.{AreSeatsOf-set}
use Rattle.stress.proofs.places.free.Goals as goal

pub returns-clause-seats : goal.returns-clause-seats
returns-clause-seats g c = AreSeatsOf-set c.args.arena.now.limits c.args.arena.now.table c.args.seats.now c.args.worker c.free.new.self _ c.free.ensures.seat.kept.ends c.requires
