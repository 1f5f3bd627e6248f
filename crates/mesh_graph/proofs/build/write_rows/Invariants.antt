use Rattle.std.proofs.Common.{◌≡◌, ◌*◌, length, take}
use Rattle.lane_kernels.specs.Rows.{width_of}
use Rattle.mesh_graph.specs.Rows.{HaveRows}
use Rattle.mesh_graph.proofs.build.write_rows.Given as goal

abbrev pub invariant-loop-i : goal.invariant-loop-i
invariant-loop-i l = (length l.rows ≡ length l.fn.rows) × HaveRows l.run l.sets l.masks l.i (take (width_of (length l.sets) * l.i) l.rows)
