use Rattle.trace_runner.proofs.Names.{subst, shown, CoreStep, ErasedStep, Reply, ShardEnded}
use Rattle.arena_core.specs.declared.event.Event.TheVariants as event
use Rattle.trace_runner.proofs.Making.{Carries-end}
use Rattle.trace_runner.proofs.Serving.{EndsOne-step, plan-end}
use Rattle.trace_runner.proofs.run.Run.end.Goals as goal

-- the step, by its reply
stepped : (c : goal.In-ShardEnded) → CoreStep c.args.self.now.core (event.End c.args.shard) ShardEnded c.step.new.self
stepped c = subst (λ (r : Reply). CoreStep c.args.self.now.core (event.End c.args.shard) r c.step.new.self) c.in-ShardEnded.is c.step.ensures.exact

pub returns-in-ShardEnded-clause-made : goal.returns-in-ShardEnded-clause-made
returns-in-ShardEnded-clause-made c news = Carries-end c.args.shard _ _ news (stepped c) c.step.ensures.sound
    (subst (λ (r : Reply). ErasedStep c.args.self.now.core.limits (shown c.args.self.now.core) (event.End c.args.shard) r (shown c.step.new.self)) c.in-ShardEnded.is c.step.ensures.plain)

pub returns-in-ShardEnded-clause-shards : goal.returns-in-ShardEnded-clause-shards
returns-in-ShardEnded-clause-shards c = EndsOne-step _ _ c.args.shard (stepped c)

pub returns-in-ShardEnded-clause-plan : goal.returns-in-ShardEnded-clause-plan
returns-in-ShardEnded-clause-plan c = plan-end _ _ c.args.shard (stepped c)
