use Rattle.trace_runner.proofs.Names.{◌≡◌, ◌∙◌, ◌+◌, ◌-◌, ℕ, Some, ap, arith, replicate, subst, Calls, Carries, news_at}
use Rattle.arena_core.specs.declared.event.Event.TheVariants as event
use Rattle.trace_runner.proofs.PlanSteps.{Carries-next}
use Rattle.trace_runner.proofs.Shards.{KeepsShards-trans}
use Rattle.trace_runner.proofs.plans.Plans.take_steps_left.Goals as goal

pub loop-taken-preserved : goal.loop-taken-preserved
loop-taken-preserved c =
    let less : c.args.left - c.loop-taken.taken - 1 ≡ c.args.left - (c.loop-taken.taken + 1) = omega arith in
    record {
      made = λ kept. Carries-next c.loop-taken.taken c.args.core.now c.loop-taken.core c.step.new.core (news_at kept c.args.self.now) (news_at kept c.loop-taken.self) (news_at kept c.step.new.self)
          (c.loop-taken.invariant.made kept) (c.in_ok-step.ensures.made kept);
      knows = c.in_ok-step.ensures.knows;
      left = c.in_ok-step.ensures.one_less ∙ ap (λ (count : ℕ). Some count) less;
      shards = KeepsShards-trans _ _ _ c.loop-taken.invariant.shards c.step.ensures.shards;
      marks = c.step.ensures.marks ∙ c.loop-taken.invariant.marks;
    }

pub returns-clause-made : goal.returns-clause-made
returns-clause-made c kept =
    let all : c.loop-taken.taken ≡ c.args.left = omega (arith, c.loop-taken-test.false, c.loop-taken.auto.taken-end) in
    subst (λ (count : ℕ). Carries (replicate count (Calls event.Step)) c.args.core.now (news_at kept c.args.self.now) c.loop-taken.core
    (news_at kept c.loop-taken.self)) all (c.loop-taken.invariant.made kept)
