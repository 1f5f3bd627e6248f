use Rattle.trace_runner.proofs.Names.{◌∙◌, ◌∷◌, [], replicate, sym, on_ok_weaker, kept_in, Calls, news_at}
use Rattle.arena_core.specs.declared.event.Event.TheVariants as event
use Rattle.trace_runner.proofs.Making.{Carries-append}
use Rattle.trace_runner.proofs.PlanSteps.{plan_end_asked-some}
use Rattle.trace_runner.proofs.plans.Plans.end_open.Goals as goal

pub returns-clause-made : goal.returns-clause-made
returns-clause-made c =
    let before = kept_in c.args.replies.now in
    let after = kept_in c.close.new.replies in
    rw (plan_end_asked-some c.args.core.now.plan c.in-Some.left (sym c.in-Some.is ∙ c.requires.knows))
    (on_ok_weaker c.close.result
    (Carries-append (replicate c.in-Some.left (Calls event.Step)) (Calls event.Close ∷ []) c.args.core.now c.take_steps_left.new.core c.close.new.core
    (news_at before c.args.self.now) (news_at before c.take_steps_left.new.self) (news_at after c.close.new.self) (c.in_ok-take_steps_left.ensures.made before)) c.close.ensures.made)
