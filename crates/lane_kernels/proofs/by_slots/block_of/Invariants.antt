use Rattle.std.proofs.Common.{◌≡◌, ℕ, ◌+◌, ◌*◌, ◌<◌, ◌↔◌, length, get_or}
use Rattle.std.specs.Int.{bit_at}
use Rattle.lane_kernels.specs.Rows.{IsClearIn}
use Rattle.lane_kernels.proofs.by_slots.block_of.Given as goal

abbrev pub invariant-loop-k : goal.invariant-loop-k
invariant-loop-k l =
    (length l.block ≡ 16)
    × ((i b : ℕ) → i < 16 → b < 64 → (bit_at (get_or l.block i 0) b ≡ 0) ↔ IsClearIn l.words l.rows l.width (l.at + i) b (64 * l.k))
