use Rattle.std.proofs.Common.{◌+◌, arith, get_or}
use Rattle.lane_kernels.proofs.Blocks.{taken_bit}
use Rattle.lane_kernels.proofs.by_slots.take_off.Goals as goal

pub returns-clause-block : goal.returns-clause-block
returns-clause-block c = λ i b low small inside.
    let a = c.args in
    taken_bit (get_or a.row.now (a.at + i) 0) (get_or a.block.now i 0) _ b (c.fits-block i) small (c.loop-i.invariant.1 i (omega (arith, low, inside)))
