use Rattle.std.proofs.Common.{◌*◌, ◌^◌, ◌%◌}
use Rattle.std.proofs.lemmas.Nat.{one_shl}
use Rattle.lane_kernels.proofs.Words.{with_bit}
use Rattle.lane_kernels.proofs.by_slots.bits_at.Goals as goal

pub returns : goal.returns
returns c = with_bit c.args.plane.now c.args.bit c.args.at (1 * 2 ^ c.args.bit % 2 ^ 64) (one_shl c.args.bit 64 c.requires.bit) c.requires.plane
