use Rattle.std.proofs.Common.{◌≡◌, ◌∙◌, ◌++◌, ap, arith, length, map, sym, append_assoc, length-append}
use Rattle.std.specs.Vec.Iter.{into_iter_items}
use Rattle.span.specs.SpanLogs.{span_of_log}
use Rattle.groups.specs.Group.{spans_in, spans_of}
use Rattle.groups.specs.Spans.{SpansState, all_spans}
use Rattle.pool.proofs.walks.into_logs.Goals as goal

pub loop-group-preserved : goal.loop-group-preserved
loop-group-preserved c =
    let before = map span_of_log c.loop-group.logs.items in
    let rest = spans_in (into_iter_items c.next.new.self) in
    let moved : length (all_spans c.into_spans.result) ≡ length (spans_of c.in-Some.group) = ap (λ (spans : SpansState). length (all_spans spans)) c.into_spans.ensures in
    record {
      logs =
          ap (λ logs. logs ++ rest) (c.into_logs.ensures.logs ∙ ap (λ (spans : SpansState). before ++ all_spans spans) c.into_spans.ensures)
          ∙ append_assoc before (spans_of c.in-Some.group) rest
          ∙ ap (λ more. before ++ more) (sym (ap (λ gs. spans_in gs) c.in-Some.ensures.steps.0))
          ∙ c.loop-group.invariant.logs;
      legal = λ legal. c.into_logs.ensures.legal (c.loop-group.invariant.legal legal);
      room = omega (arith, c.into_logs.ensures.room, c.loop-group.invariant.room, ap (λ gs. length (spans_in gs)) c.in-Some.ensures.steps.0, moved, length-append (spans_of c.in-Some.group) rest);
    }
