use Rattle.std.proofs.Common.{ℕ, ◌≡◌, ◌<◌, List, Option, Some, map, slice_get}
use Rattle.audit.specs.Tables.{IsFull, filled_row}
use Rattle.audit.proofs.section.are_full.Given as goal

abbrev pub invariant-loop-row : goal.invariant-loop-row
invariant-loop-row l = (j : ℕ) (row : List (Option ℕ)) → j < l.row-index → slice_get (map filled_row l.rows) j ≡ Some row → IsFull row
