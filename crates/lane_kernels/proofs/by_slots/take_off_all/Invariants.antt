use Rattle.std.proofs.Common.{◌≡◌, ℕ, ◌-◌, ◌*◌, ◌%◌, ◌≤◌, ◌<◌, ◌&&◌, length, get_or}
use Rattle.bitmap.specs.Slots.{ascending, has_bit}
use Rattle.lane_kernels.specs.Rows.{padded, survives}
use Rattle.lane_kernels.proofs.by_slots.take_off_all.Given as goal

abbrev pub invariant-loop-at : goal.invariant-loop-at
invariant-loop-at l =
    (length l.row ≡ length l.fn.row)
    × (l.at % 16 ≡ 0)
    × (l.at ≤ padded (length l.row))
    × ((j : ℕ) → j < 64 * l.at → has_bit l.row j ≡ (has_bit l.fn.row j && survives (padded (length l.fn.row)) l.rows j (ascending l.set)))
    × ((w : ℕ) → l.at ≤ w → get_or l.row w 0 ≡ get_or l.fn.row w 0)

abbrev pub decreases-loop-at : goal.decreases-loop-at
decreases-loop-at l = length l.row - l.at
