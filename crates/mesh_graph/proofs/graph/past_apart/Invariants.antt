use Rattle.std.proofs.Common.{◌≡◌, ℕ, ◌-◌, ◌<◌, ◌≤◌, bit_and, get_or, length}
use Rattle.mesh_graph.proofs.graph.past_apart.Given as goal

abbrev pub invariant-loop-at : goal.invariant-loop-at
invariant-loop-at l = (l.start ≤ l.at) × (l.at ≤ length l.words) × ((k : ℕ) → l.start ≤ k → k < l.at → bit_and (get_or l.words k 0) (get_or l.among k 0) ≡ 0)

abbrev pub decreases-loop-at : goal.decreases-loop-at
decreases-loop-at l = length l.words - l.at
