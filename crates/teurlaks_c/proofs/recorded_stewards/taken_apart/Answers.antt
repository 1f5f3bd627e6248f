use Rattle.std.proofs.Common.{ap, arith, length}
use Rattle.teurlaks_c.proofs.recorded_stewards.taken_apart.Goals as goal

pub push_reserved-requires : goal.push_reserved-requires
push_reserved-requires c = omega (arith, c.loop-kept.invariant.room, ap length (c.in-Some.ensures {u = tt}).steps.0)
