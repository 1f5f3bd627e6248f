use Rattle.thread_runner.proofs.Noting.{pairs_left-taken, underway-taken}
use Rattle.thread_runner.proofs.plans.take_step.Goals as goal

pub returns-in_ok-push-in-Taken-clause-underway : goal.returns-in_ok-push-in-Taken-clause-underway
returns-in_ok-push-in-Taken-clause-underway g c =
    underway-taken c.args.steward.now.plan c.step.new.steward.plan c.in_ok-abandoned.field-0 c.in-Taken.abandoned c.in-Taken.owned c.in-Taken.outcome c.in_ok-abandoned.ensures.steps c.in-Taken.is
    c.args.taken.now c.push.new.self c.in_ok-push-in-Taken.ensures.pushed c.requires.underway

pub returns-in_ok-push-in-Taken-clause-left : goal.returns-in_ok-push-in-Taken-clause-left
returns-in_ok-push-in-Taken-clause-left g c same =
    pairs_left-taken c.args.steward.now.plan c.step.new.steward.plan c.in_ok-abandoned.field-0 c.in-Taken.abandoned c.in-Taken.owned c.in-Taken.outcome c.in_ok-abandoned.ensures.steps c.in-Taken.is
