use Rattle.std.proofs.Common.{arith}
use Rattle.span.proofs.Widths.{slots_in-least, slots_in-most}
use Rattle.shard.proofs.shard.putting.first_reach.Goals as goal
