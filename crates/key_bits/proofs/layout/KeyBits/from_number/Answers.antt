use Rattle.std.proofs.lemmas.Bool.{both_ways}
use Rattle.key_bits.proofs.Joined.{HasParts-number, HaveRoom-number, if_none}
use Rattle.key_bits.proofs.layout.KeyBits.from_number.Goals as goal

pub returns-then-not-have_room-clause-none : goal.returns-then-not-have_room-clause-none
returns-then-not-have_room-clause-none c = λ key is.
    let p = c.parted-parts.result in
    let parted = c.parted-parts.ensures in
    let room = HaveRoom-number c.args.self key c.args.number p.generation p.shard p.serial p.slot parted.number parted.shard parted.serial parted.slot is in
    absurd (both_ways c.have_room.result c.if-not-have_room.true (c.have_room.ensures.1 room))

pub returns-clause-none : goal.returns-clause-none
returns-clause-none c =
    let p = c.parted-parts.result in
    let parted = c.parted-parts.ensures in
    if_none c.key_of.result (λ no key is. no key
    (HasParts-number c.args.self key c.args.number p.generation p.shard p.serial p.slot parted.number parted.shard parted.serial parted.slot is))
    c.key_of.ensures.none
