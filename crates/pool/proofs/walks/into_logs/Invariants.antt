use Rattle.std.proofs.Common.{◌≡◌, ◌+◌, ◌++◌, length, map}
use Rattle.std.specs.Vec.Iter.{into_iter_items}
use Rattle.span.specs.SpanLogs.{AreLegal, room_for_logs, span_of_log}
use Rattle.groups.specs.Group.{spans_in}
use Rattle.pool.proofs.walks.into_logs.Given as goal

abbrev pub invariant-loop-group : goal.invariant-loop-group
invariant-loop-group l = record {
  logs : map span_of_log l.logs.items ++ spans_in (into_iter_items l.group-iterator) ≡ map span_of_log l.fn.logs.items ++ spans_in l.fn.groups.items;
  legal : AreLegal l.fn.logs.items → AreLegal l.logs.items;
  room : room_for_logs l.logs + length (spans_in l.fn.groups.items) ≡ room_for_logs l.fn.logs + length (spans_in (into_iter_items l.group-iterator));
}
