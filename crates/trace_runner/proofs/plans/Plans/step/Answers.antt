use Rattle.trace_runner.proofs.Names.{List, ap, on_ok_weaker, News, news_at}
use Rattle.arena_core.specs.declared.event.Event.TheVariants as event
use Rattle.arena_core.specs.declared.reply.Reply.TheVariants as reply
use Rattle.trace_runner.specs.declared.report.TakenStep.{TakenStep}
use Rattle.trace_runner.proofs.Making.{Carries-one}
use Rattle.trace_runner.proofs.PlanSteps.{KeepsShards-stepped}
use Rattle.trace_runner.proofs.plans.Plans.step.Goals as goal

pub returns-in-Stepped-clause-made : goal.returns-in-Stepped-clause-made
returns-in-Stepped-clause-made c kept =
    let before : News = news_at kept c.args.self.now in
    on_ok_weaker c.push.result (λ pushed. Carries-one event.Step
    (reply.Stepped c.in-Stepped.abandoned c.in-Stepped.owned c.in-Stepped.outcome) c.args.core.now c.step.new.self before
    (record before { taken = c.push.new.self })
    c.in-Stepped.ensures.exact c.in-Stepped.ensures.sound c.in-Stepped.ensures.plain tt (ap (λ (taken : List TakenStep). record before { taken = taken }) pushed)) c.push.ensures.pushed

pub returns-in-Stepped-clause-shards : goal.returns-in-Stepped-clause-shards
returns-in-Stepped-clause-shards c = KeepsShards-stepped c.args.core.now c.step.new.self c.in-Stepped.abandoned c.in-Stepped.owned c.in-Stepped.outcome c.in-Stepped.ensures.exact
