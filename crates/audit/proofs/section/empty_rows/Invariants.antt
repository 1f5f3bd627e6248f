use Rattle.std.proofs.Common.{ℕ, ◌≡◌, [], List, Option, Some, map, slice_get, vec_len}
use Rattle.span.specs.declared.span_log.SpanLog.{SpanLog}
use Rattle.audit.specs.Tables.{IsRowOf, filled_row}
use Rattle.audit.proofs.section.empty_rows.Given as goal

abbrev pub invariant-loop-log : goal.invariant-loop-log
invariant-loop-log l = record {
  len : vec_len l.rows ≡ l.log-index;
  each : (j : ℕ) (log : SpanLog) (row : List (Option ℕ)) → slice_get l.logs j ≡ Some log → slice_get (map filled_row l.rows.items) j ≡ Some row → IsRowOf [] log row;
}
