use Rattle.std.proofs.Common.{◌≡◌, ◌+◌, ◌++◌, length, map}
use Rattle.std.specs.Vec.Iter.{into_iter_items}
use Rattle.span.specs.SpanLogs.{AreLegal, room_for_logs, span_of_log}
use Rattle.groups.specs.Spans.{all_spans}
use Rattle.groups.proofs.spans.Spans+Kept.into_logs.Given as goal

abbrev pub invariant-loop-guest : goal.invariant-loop-guest
invariant-loop-guest l = record {
  logs : map span_of_log l.logs.items ++ into_iter_items l.guest-iterator ≡ map span_of_log l.fn.logs.items ++ all_spans l.fn.self;
  legal : AreLegal l.fn.logs.items → AreLegal l.logs.items;
  room : room_for_logs l.logs + length (all_spans l.fn.self) ≡ room_for_logs l.fn.logs + length (into_iter_items l.guest-iterator);
}
