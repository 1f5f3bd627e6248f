use Rattle.trace_runner.proofs.Names.{None, Option, Some, subst, Key, ErasedStep, shown, CoreStep, Settle, Settled}
use Rattle.trace_runner.proofs.Draining.{KeepsPlan-settled}
use Rattle.trace_runner.proofs.Making.{AreSteps-one}
use Rattle.trace_runner.proofs.rings.settle_next.Goals as goal

-- the step, by its key
stepped : (c : goal.In-Settled-Some) → CoreStep c.args.core.now (Settle c.args.worker c.args.shard) (Settled (Some c.in-Settled-Some.field-0-0)) c.step.new.self
stepped c = subst (λ (found : Option Key). CoreStep c.args.core.now (Settle c.args.worker c.args.shard) (Settled found) c.step.new.self) c.in-Settled-Some.field-0-is c.in-Settled-Some.ensures.exact

pub returns-in-Settled-Some-clause-settled : goal.returns-in-Settled-Some-clause-settled
returns-in-Settled-Some-clause-settled c = (
  c.in-Settled-Some.field-0-0,
  AreSteps-one (Settle c.args.worker c.args.shard) (Settled (Some c.in-Settled-Some.field-0-0)) c.args.core.now c.step.new.self (stepped c) c.in-Settled-Some.ensures.sound
      (subst (λ (found : Option Key). ErasedStep c.args.core.now.limits (shown c.args.core.now) (Settle c.args.worker c.args.shard) (Settled found)
      (shown c.step.new.self)) c.in-Settled-Some.field-0-is c.in-Settled-Some.ensures.plain) tt,
)

pub returns-in-Settled-Some-clause-shards : goal.returns-in-Settled-Some-clause-shards
returns-in-Settled-Some-clause-shards c = KeepsPlan-settled c.args.worker c.args.shard c.args.core.now c.step.new.self c.in-Settled-Some.field-0-0 (stepped c)

pub returns-in-Settled-None-clause-settled : goal.returns-in-Settled-None-clause-settled
returns-in-Settled-None-clause-settled c =
    AreSteps-one (Settle c.args.worker c.args.shard) (Settled None) c.args.core.now c.step.new.self
    (subst (λ (found : Option Key). CoreStep c.args.core.now (Settle c.args.worker c.args.shard) (Settled found) c.step.new.self) c.in-Settled-None.field-0-is
    c.in-Settled-None.ensures.exact) c.in-Settled-None.ensures.sound
    (subst (λ (found : Option Key). ErasedStep c.args.core.now.limits (shown c.args.core.now) (Settle c.args.worker c.args.shard) (Settled found)
    (shown c.step.new.self)) c.in-Settled-None.field-0-is c.in-Settled-None.ensures.plain) tt
