use Rattle.trace_runner.proofs.Names.{ap, refl, kept_in}
use Rattle.trace_runner.proofs.Draining.{Makes-tended, tended}
use Rattle.trace_runner.proofs.Recalling.{keeping-other}
use Rattle.trace_runner.proofs.run.Run.tend.Goals as goal

pub returns-clause-made : goal.returns-clause-made
returns-clause-made c =
    let workers = c.args.self.now.trace.now.header.shards in
    let drains = c.in_ok-count.ensures.tended in
    let before = kept_in c.args.self.now.replies in
    let after = kept_in c.tell.new.self in
    Makes-tended workers c.args.thread c.args.self.now.core c.settle_shard.new.core c.in_ok-count.count drains c.args.number before after
    (keeping-other c.args.number before after (tended workers c.args.thread c.args.self.now.core c.settle_shard.new.core c.in_ok-count.count drains)
    c.in_ok-tell.ensures.count c.tell.ensures.asked (rw drains.count_is at c.in_ok-tell.ensures.text) refl (ap (λ v. v.items) c.tell.ensures.keys))
