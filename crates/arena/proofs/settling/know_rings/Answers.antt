use Rattle.std.proofs.Common.{All, rules}
use Rattle.arena.specs.Seats.{HasItsRings}
use Rattle.arena.proofs.SeatRings.{AreLinked-seats}
use Rattle.arena.proofs.settling.know_rings.Goals as goal

pub returns-clause-linked : goal.returns-clause-linked
returns-clause-linked g c =
    let each : All HasItsRings c.args.seats.now = search rules in
    AreLinked-seats c.args.arena.now.limits c.args.arena.now.table c.args.seats.now c.requires c.args.arena.now.rings_are each
