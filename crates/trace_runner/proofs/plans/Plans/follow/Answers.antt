use Rattle.trace_runner.proofs.Names.{◌∙◌, sym}
use Rattle.trace_runner.proofs.PlanSteps.{stepping-some}
use Rattle.trace_runner.proofs.plans.Plans.follow.Goals as goal

pub returns-in-Some-clause-made : goal.returns-in-Some-clause-made
returns-in-Some-clause-made c kept =
    rw (stepping-some c.args.core.now.plan c.in-Some.left (sym c.in-Some.is ∙ c.requires.knows) c.if-left-gt0.true) (c.step.ensures.made kept)
