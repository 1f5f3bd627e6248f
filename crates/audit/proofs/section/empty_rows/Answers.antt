use Rattle.std.proofs.Common.{[], Option, ℕ, List, length, refl, arith}
use Rattle.std.proofs.lemmas.Option.{slice_get_read}
use Rattle.span.specs.declared.span_log.SpanLog.{SpanLog}
use Rattle.audit.specs.Tables.{IsRowOf, filled_row}
use Rattle.audit.proofs.Entered.{IsRowOf-none}
use Rattle.audit.proofs.Lists.{rows_more}
use Rattle.audit.proofs.section.empty_rows.Goals as goal

pub loop-log-preserved : goal.loop-log-preserved
loop-log-preserved c =
    let logs = c.args.logs.now in
    let log = c.log-item.result in
    let row = c.in_ok-empty_row.field-0 in
    record {
      len = omega (arith, c.in_ok-push.ensures.len, c.loop-log.invariant.len);
      each = rows_more filled_row (λ (x : SpanLog) (l : List (Option ℕ)). IsRowOf [] x l) logs c.loop-log.rows.items log row c.loop-log.log-index
          (slice_get_read logs (length logs) c.loop-log.log-index log refl c.loop-log-test.true c.log-item.is) (omega (arith, c.loop-log.rows.ok.0, c.loop-log.invariant.len))
          c.loop-log.invariant.each (IsRowOf-none log (filled_row row) (omega (arith, c.in_ok-empty_row.ensures.len)) c.in_ok-empty_row.ensures.none)
          c.push.new.self.items c.in_ok-push.ensures.items;
    }
