use Rattle.std.proofs.Common.{arith}
use Rattle.marks.specs.Closings.{reopened}
use Rattle.marks.proofs.Closings.{written-more}
use Rattle.marks.proofs.closing.reopen_all.Goals as goal

pub loop-shard-preserved : goal.loop-shard-preserved
loop-shard-preserved g c =
    written-more reopened c.args.shards.now c.loop-shard.shards c.loop-shard.shard-index c.shard-item.result c.reopen.new.self c.loop-shard.invariant
    (omega (arith, c.loop-shard-test.true, c.loop-shard.auto.shards)) c.reopen.ensures.opens
