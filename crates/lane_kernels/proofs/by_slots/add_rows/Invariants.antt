use Rattle.std.proofs.Common.{◌≡◌, ℕ, ◌+◌, ◌<◌, ◌↔◌, length, get_or}
use Rattle.std.specs.Int.{bit_at}
use Rattle.lane_kernels.specs.Rows.{IsClear}
use Rattle.lane_kernels.proofs.by_slots.add_rows.Given as goal

abbrev pub invariant-loop-left : goal.invariant-loop-left
invariant-loop-left l =
    (length l.block ≡ 16)
    × ((i b : ℕ) → i < 16 → b < 64 → ((bit_at (get_or l.block i 0) b ≡ 0) × IsClear l.left l.rows l.width (l.first + i) b) ↔
    ((bit_at (get_or l.fn.block i 0) b ≡ 0) × IsClear l.word l.rows l.width (l.first + i) b))

abbrev pub decreases-loop-left : goal.decreases-loop-left
decreases-loop-left l = l.left
