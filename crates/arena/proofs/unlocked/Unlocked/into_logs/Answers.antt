use Rattle.std.proofs.Common.{◌≡◌, ◌∙◌, ◌∷◌, ◌++◌, ap, arith, map, rules}
use Rattle.std.specs.List.{flat_map}
use Rattle.std.proofs.lemmas.List.Sums.{sum_by-cons}
use Rattle.std.specs.Vec.Iter.{into_iter_items}
use Rattle.groups.specs.Group.{spans_in}
use Rattle.span.specs.SpanLogs.{span_of_log}
use Rattle.arena.specs.SpanCounts.{shard_spans, spans_of_all}
use Rattle.arena.proofs.KeptSpans.{AreLegal-none, logs_more, logs_none}
use Rattle.arena.proofs.unlocked.Unlocked.into_logs.Goals as goal

pub loop-shard-init : goal.loop-shard-init
loop-shard-init c = record {
  legal = c.into_logs.ensures.legal (AreLegal-none c.args.self.logs.items (omega (arith, c.args.self.no_log, c.args.self.logs.ok.0)));
  all =
      ap (λ items. map span_of_log c.into_logs.new.logs.items ++ flat_map (λ shard. spans_in shard.groups) items) c.into_iter-shard-iterator.ensures.into_iter_gives.0
      ∙ ap (λ l. l ++ flat_map (λ shard. spans_in shard.groups) c.args.self.shards.items)
      (c.into_logs.ensures.logs ∙ ap (λ l. l ++ spans_in c.args.self.pool.groups) (logs_none c.args.self.logs.items (omega (arith, c.args.self.no_log, c.args.self.logs.ok.0))));
  room = search rules;
}

pub loop-shard-preserved : goal.loop-shard-preserved
loop-shard-preserved c =
    let more = into_iter_items c.next.new.self in
    let left : into_iter_items c.loop-shard.shard-iterator ≡ c.in-Some.shard ∷ more = (c.in-Some.ensures {u = tt}).steps.0 in
    record {
      legal = c.into_logs-in-loop-shard.ensures.legal c.loop-shard.invariant.legal;
      all = logs_more _ _ _ (λ shard. spans_in shard.groups) c.in-Some.shard more (into_iter_items c.loop-shard.shard-iterator) c.into_logs-in-loop-shard.ensures.logs left c.loop-shard.invariant.all;
      room = omega (arith, c.loop-shard.invariant.room, c.into_logs-in-loop-shard.ensures.room, ap spans_of_all left, sum_by-cons shard_spans c.in-Some.shard more);
    }
