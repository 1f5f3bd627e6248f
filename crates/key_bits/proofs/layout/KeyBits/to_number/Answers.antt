use Rattle.key_bits.proofs.Joined.{IsNumberOf-alone, number-below}
use Rattle.key_bits.proofs.layout.KeyBits.to_number.Goals as goal

pub returns-then-have_room-clause-alone : goal.returns-then-have_room-clause-alone
returns-then-have_room-clause-alone c =
    let room = rw (c.from.ensures, c.from-2.ensures, c.from-3.ensures) at (c.have_room.ensures.0 c.if-have_room.true) in
    let is = rw (c.from.ensures, c.from-2.ensures, c.from-3.ensures) at c.joined.ensures in
    λ other its. IsNumberOf-alone c.args.self c.args.key other c.joined.result (record { fits = room; is = is }) its

pub returns-then-have_room-clause-below : goal.returns-then-have_room-clause-below
returns-then-have_room-clause-below c =
    rw c.joined.ensures (number-below c.args.self c.from.result c.from-2.result c.from-3.result c.args.key.slot (c.have_room.ensures.0 c.if-have_room.true))
