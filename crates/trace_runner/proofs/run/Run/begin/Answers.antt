use Rattle.trace_runner.proofs.Names.{ap, refl, ShardBegun, kept_in, one_call}
use Rattle.arena_core.specs.declared.event.Event.TheVariants as event
use Rattle.trace_runner.proofs.Making.{Makes-called}
use Rattle.trace_runner.proofs.Recalling.{keeping-other}
use Rattle.trace_runner.proofs.Serving.{Resumes-begin}
use Rattle.trace_runner.proofs.run.Run.begin.Goals as goal

pub returns-clause-made : goal.returns-clause-made
returns-clause-made c =
    let begin = event.Begin c.args.thread in
    Makes-called c.args.number begin ShardBegun c.args.self.now.core c.begin.new.self (kept_in c.args.self.now.replies) (kept_in c.tell.new.self)
    c.in-Ok.ensures.exact c.begin.ensures.sound c.begin.ensures.same tt
    (keeping-other c.args.number (kept_in c.args.self.now.replies) (kept_in c.tell.new.self) (one_call begin ShardBegun c.begin.new.self)
    c.in_ok-tell-in-Ok.ensures.count c.tell.ensures.asked c.in_ok-tell-in-Ok.ensures.text refl (ap (λ v. v.items) c.tell.ensures.keys))

pub returns-clause-shards : goal.returns-clause-shards
returns-clause-shards c = Resumes-begin c.args.self.now.core c.begin.new.self c.args.thread c.in-Ok.ensures.exact

pub returns-in_err-tell-in-Ok-clause-shards : goal.returns-in_err-tell-in-Ok-clause-shards
returns-in_err-tell-in-Ok-clause-shards c = Resumes-begin c.args.self.now.core c.begin.new.self c.args.thread c.in-Ok.ensures.exact
