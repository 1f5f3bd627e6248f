use Rattle.std.proofs.Common.{◌<◌, ◌∙◌, ap, arith, length, map, option_map, sym}
use Rattle.std.proofs.Math.ListN.{get_or-map}
use Rattle.std.proofs.lemmas.List.{length-map, map-set}
use Rattle.std.proofs.lemmas.List.Sums.{sum_by_more}
use Rattle.marks.proofs.Closings.{written-more}
use Rattle.arena.specs.LentForgets.{dead_count, without_dead_guests}
use Rattle.arena.proofs.LentForgets.{get_or-written, length-written}
use Rattle.arena.proofs.locks.forget_all.Goals as goal

pub loop-shard-preserved : goal.loop-shard-preserved
loop-shard-preserved c =
    let view = option_map (λ shard. shard.guard.value.value) in
    let before = map view c.args.shards.now in
    let now = map view c.loop-shard.shards in
    let at = c.loop-shard.shard-index in
    let item = view c.shard-item.result in
    let was = c.loop-shard.invariant.shards in
    let long = length-written (option_map without_dead_guests) before now at was in
    let within : at < length now = omega (arith, c.loop-shard-test.true, c.loop-shard.auto.shards, length-map c.loop-shard.shards view) in
    let same = get_or-map view c.loop-shard.shards at c.shard-item.result in
    record {
      shards = map-set view c.loop-shard.shards at c.forget_one.new.shard
          ∙ written-more (option_map without_dead_guests) before now at item (view c.forget_one.new.shard) was within
          (c.forget_one.ensures.shard ∙ ap (option_map without_dead_guests) (sym same));
      count =
          let below : at < length before = omega (arith, within, long) in
          let read = get_or-written (option_map without_dead_guests) before now at item was below in
          omega (arith, c.loop-shard.invariant.count, c.forget_one.ensures.count, sum_by_more dead_count before at item below, ap dead_count (sym same ∙ read));
    }
