use Rattle.arena.proofs.SeatRings.{AreSeatsOf-set}
use Rattle.stress.proofs.places.put.Goals as goal

pub returns-in-Ok-clause-seats : goal.returns-in-Ok-clause-seats
returns-in-Ok-clause-seats g c = AreSeatsOf-set c.args.arena.now.limits c.args.arena.now.table c.args.seats.now c.args.worker c.put.new.self _ c.put.ensures.seat.kept.ends c.requires

pub returns-in-Err-clause-seats : goal.returns-in-Err-clause-seats
returns-in-Err-clause-seats g c = AreSeatsOf-set c.args.arena.now.limits c.args.arena.now.table c.args.seats.now c.args.worker c.put.new.self _ c.put.ensures.seat.kept.ends c.requires
