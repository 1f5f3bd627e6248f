use Rattle.std.proofs.Common.{slice_set}
use Rattle.arena.proofs.SeatRings.{AreSeatsOf-set}
use Rattle.refusals.proofs.ends.leaves_one.Goals as goal

pub returns-then-not-has_shard_of-clause-seats : goal.returns-then-not-has_shard_of-clause-seats
returns-then-not-has_shard_of-clause-seats g c = AreSeatsOf-set c.args.arena.now.limits c.args.arena.now.table c.args.seats.now 0 c.put.new.self _ c.put.ensures.seat.kept.ends c.requires.seats

pub returns-clause-seats : goal.returns-clause-seats
returns-clause-seats g c =
    let first = AreSeatsOf-set c.args.arena.now.limits c.args.arena.now.table c.args.seats.now 0 c.put.new.self _ c.put.ensures.seat.kept.ends c.requires.seats in
    AreSeatsOf-set c.args.arena.now.limits c.args.arena.now.table (slice_set c.args.seats.now 0 c.put.new.self) 1 c.free_later.new.self _ c.free_later.ensures.seat.0 first
