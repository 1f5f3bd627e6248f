use Rattle.std.proofs.Common.{◌+◌, arith}
use Rattle.key_bits.proofs.Joined.{few-bits, number-below, span-below}
use Rattle.key_bits.proofs.parts.joined.Goals as goal

pub appended-span-requires-clause-all : goal.appended-span-requires-clause-all
appended-span-requires-clause-all c =
    let bits = c.args.bits in
    rw c.appended-front.ensures (few-bits _ (bits.generation + bits.shard + bits.serial)
    (span-below bits c.args.parts.generation c.args.parts.shard c.args.parts.serial c.args.parts.slot c.requires) (omega (arith, bits.all_in_range)))

pub appended-requires-clause-all : goal.appended-requires-clause-all
appended-requires-clause-all c =
    let bits = c.args.bits in
    rw (c.appended-span.ensures, c.appended-front.ensures, c.from.ensures) (few-bits _ (bits.generation + bits.shard + bits.serial + 8)
    (number-below bits c.args.parts.generation c.args.parts.shard c.args.parts.serial c.args.parts.slot c.requires) (omega (arith, bits.all_in_range)))
