use Rattle.std.proofs.Common.{◌≡◌, ℕ, ◌≤◌, ◌<◌, length, get_or, bit_and}
use Rattle.mesh_graph.proofs.by_class.keep.Given as goal

abbrev pub invariant-loop-w : goal.invariant-loop-w
invariant-loop-w l =
    (length l.row ≡ length l.mask)
    × ((k : ℕ) → k < l.w → get_or l.row k 0 ≡ bit_and (get_or l.fn.row k 0) (get_or l.mask k 0))
    × ((k : ℕ) → l.w ≤ k → get_or l.row k 0 ≡ get_or l.fn.row k 0)
