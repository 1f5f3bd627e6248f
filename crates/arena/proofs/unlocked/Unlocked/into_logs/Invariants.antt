use Rattle.std.proofs.Common.{◌≡◌, ◌≤◌, ◌++◌, map}
use Rattle.std.specs.List.{flat_map}
use Rattle.std.specs.Vec.Iter.{into_iter_items}
use Rattle.groups.specs.Group.{spans_in}
use Rattle.span.specs.SpanLogs.{AreLegal, room_for_logs, span_of_log}
use Rattle.arena.specs.SpanCounts.{spans_of_all}
use Rattle.arena.proofs.unlocked.Unlocked.into_logs.Given as goal

abbrev pub invariant-loop-shard : goal.invariant-loop-shard
invariant-loop-shard l = record {
  legal : AreLegal l.logs.items;
  all : map span_of_log l.logs.items ++ flat_map (λ shard. spans_in shard.groups) (into_iter_items l.shard-iterator) ≡ spans_in l.fn.self.pool.groups
      ++ flat_map (λ shard. spans_in shard.groups) l.fn.self.shards.items;
  room : spans_of_all (into_iter_items l.shard-iterator) ≤ room_for_logs l.logs;
}
