use Rattle.std.proofs.Common.{◌∙◌, ap, rules, arith, sum}
use Rattle.std.proofs.Math.Seq.{map-set_same}
use Rattle.arena.proofs.Linking.{room_more}
use Rattle.arena.proofs.settling.reserve_all.Goals as goal

pub returns-in_err-make_room-clause-told : goal.returns-in_err-make_room-clause-told
returns-in_err-make_room-clause-told g c = map-set_same g.K.Receipts.told c.loop-shard.receipts c.loop-shard.shard c.make_room.new.self
    c.index-receipts-shard.result c.make_room.ensures.told ∙ c.loop-shard.invariant.told

pub loop-shard-preserved : goal.loop-shard-preserved
loop-shard-preserved g c =
    let inv = c.loop-shard.invariant in
    record {
      told = map-set_same g.K.Receipts.told c.loop-shard.receipts c.loop-shard.shard c.make_room.new.self c.index-receipts-shard.result c.make_room.ensures.told ∙ inv.told;
      room =
          room_more g.K.Receipts.room (λ v. sum v.items) c.loop-shard.receipts c.args.counts.now c.loop-shard.shard c.make_room.new.self c.index-counts-shard.result (search rules) (search rules)
          (omega (arith, c.in_ok-make_room.ensures.ok, c.total-more.ensures, ap sum c.as_slice.ensures.value, ap (λ v. sum v.items) c.index-counts-shard.is)) inv.room;
    }
