use Rattle.std.proofs.Common.{◌≡◌, Some, map}
use Rattle.audit.specs.declared.row.Row.{Row}
use Rattle.audit.specs.Tables.{full_row}
use Rattle.audit.proofs.section.full_rows.Given as goal

abbrev pub invariant-loop-row : goal.invariant-loop-row
invariant-loop-row l = map full_row l.full.items ≡ map (λ (row : Row). map Some row.sections.items) l.yielded
