use Rattle.std.proofs.Common.{◌∙◌, ap, arith, map, option_map, sym}
use Rattle.std.proofs.Math.ListN.{get_or-map}
use Rattle.std.proofs.lemmas.List.{length-map, map-set}
use Rattle.marks.specs.Closings.{reopened}
use Rattle.marks.proofs.Closings.{written-more}
use Rattle.arena.proofs.locks.reopen_all.Goals as goal

pub loop-shard-preserved : goal.loop-shard-preserved
loop-shard-preserved g c =
    map-set (option_map (λ shard. shard.guard.value.value)) c.loop-shard.shards c.loop-shard.shard-index c.reopen_one.new.shard
    ∙ written-more (option_map reopened) (map (option_map (λ shard. shard.guard.value.value)) c.args.shards.now)
    (map (option_map (λ shard. shard.guard.value.value)) c.loop-shard.shards) c.loop-shard.shard-index
    (option_map (λ shard. shard.guard.value.value) c.shard-item.result) (option_map (λ shard. shard.guard.value.value) c.reopen_one.new.shard)
    c.loop-shard.invariant
    (omega (arith, c.loop-shard-test.true, c.loop-shard.auto.shards, length-map c.loop-shard.shards (option_map (λ shard. shard.guard.value.value))))
    (c.reopen_one.ensures
    ∙ ap (option_map reopened) (sym (get_or-map (option_map (λ shard. shard.guard.value.value)) c.loop-shard.shards c.loop-shard.shard-index c.shard-item.result)))
