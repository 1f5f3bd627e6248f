use Rattle.std.proofs.Common.{◌≡◌, ◌∙◌, ◌∷◌, ◌++◌, List, ap, arith, length, map, sym}
use Rattle.std.proofs.lemmas.List.{append_assoc, length-append}
use Rattle.std.specs.Vec.Iter.{into_iter_items}
use Rattle.span.specs.SpanLogs.{span_of_log}
use Rattle.span.specs.State.{SpanState}
use Rattle.shard.specs.Group.{GroupState}
use Rattle.groups.specs.Group.{spans_in, spans_of}
use Rattle.groups.specs.Spans.{SpansState, all_spans}
use Rattle.shard.proofs.shard.logs.Shard+Kept.into_logs.Goals as goal

pub loop-group-preserved : goal.loop-group-preserved
loop-group-preserved c =
    let before = map span_of_log c.loop-group.logs.items in
    let more = into_iter_items c.next.new.self in
    let left : into_iter_items c.loop-group.group-iterator ≡ c.in-Some.group ∷ more = (c.in-Some.ensures {u = tt}).steps.0 in
    let longer : length (spans_in (into_iter_items c.loop-group.group-iterator))
    ≡ length (spans_of c.in-Some.group ++ spans_in more) = ap (λ (groups : List GroupState). length (spans_in groups)) left in
    let moved : length (all_spans c.into_spans.result) ≡ length (spans_of c.in-Some.group) = ap (λ (spans : SpansState). length (all_spans spans)) c.into_spans.ensures in
    record {
      logs = ap (λ (spans : List SpanState). spans ++ spans_in more) (c.into_logs.ensures.logs ∙ ap (λ (spans : SpansState). before ++ all_spans spans) c.into_spans.ensures)
          ∙ append_assoc before (spans_of c.in-Some.group) (spans_in more)
          ∙ ap (λ (groups : List GroupState). before ++ spans_in groups) (sym left)
          ∙ c.loop-group.invariant.logs;
      legal = λ legal. c.into_logs.ensures.legal (c.loop-group.invariant.legal legal);
      room = omega (arith, c.into_logs.ensures.room, c.loop-group.invariant.room, longer, moved, length-append (spans_of c.in-Some.group) (spans_in more));
    }
