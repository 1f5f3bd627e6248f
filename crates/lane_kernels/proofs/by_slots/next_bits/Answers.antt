use Rattle.std.proofs.Common.{◌≡◌, ◌∙◌, ◌-◌, ◌==◌, ap, arith, min, length}
use Rattle.std.specs.Prelude.{slice_index}
use Rattle.std.specs.Int.{bit_at}
use Rattle.lane_kernels.specs.Planes.{word_of}
use Rattle.lane_kernels.proofs.by_slots.next_bits.Goals as goal

pub returns-then-left-ge64 : goal.returns-then-left-ge64
returns-then-left-ge64 c =
    let a = c.args in
    let whole : 64 ≡ min 64 (length a.plane.now - a.at) = omega arith in
    c.bits_at.ensures ∙ ap (word_of (λ k. bit_at (slice_index a.plane.now k) a.bit == 1) a.at) whole
