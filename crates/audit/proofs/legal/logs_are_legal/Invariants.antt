use Rattle.std.proofs.Common.{ℕ, ◌≡◌, ◌<◌, Some, slice_get}
use Rattle.span.specs.declared.span_log.SpanLog.{SpanLog}
use Rattle.audit.specs.Agreement.{IsLegalLog}
use Rattle.audit.proofs.legal.logs_are_legal.Given as goal

abbrev pub invariant-loop-log : goal.invariant-loop-log
invariant-loop-log l = (i : ℕ) (log : SpanLog) → i < l.log-index → slice_get l.logs i ≡ Some log → IsLegalLog log
