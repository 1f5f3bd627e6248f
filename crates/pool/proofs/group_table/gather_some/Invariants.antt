use Rattle.std.proofs.Common.{◌≡◌, vec_capacity}
use Rattle.pool.proofs.group_table.gather_some.Given as goal

abbrev pub invariant-loop-place : goal.invariant-loop-place
invariant-loop-place g l = (l.row.items ≡ l.fn.row.items) × (vec_capacity l.row ≡ vec_capacity l.fn.row)
