use Rattle.key_bits.proofs.Joined.{number_of_parts-parted}
use Rattle.key_bits.proofs.parts.parted.Goals as goal

pub returns-clause-number : goal.returns-clause-number
returns-clause-number c =
    rw (
      c.split-generation.ensures.front,
      c.split-generation.ensures.last,
      c.split-front.ensures.front,
      c.split-front.ensures.last,
      c.split-span.ensures.front,
      c.split-span.ensures.last,
    ) (number_of_parts-parted c.args.bits c.args.number)
