use Rattle.trace_runner.proofs.Names.{◌∙◌, refl, ap, ap₂, on_ok_weaker, Kept, kept_in, Called, News, with_called, with_news, news_at}
use Rattle.arena_core.specs.declared.event.Event.TheVariants as event
use Rattle.arena_core.specs.declared.reply.Reply.TheVariants as reply
use Rattle.trace_runner.specs.declared.report.PlanNews.TheVariants.{Closed}
use Rattle.trace_runner.proofs.Making.{Carries-one}
use Rattle.trace_runner.proofs.PlanSteps.{KeepsShards-closed, News-same}
use Rattle.trace_runner.proofs.plans.Plans.close.Goals as goal

pub returns-clause-made : goal.returns-clause-made
returns-clause-made c =
    let before : News = news_at (kept_in c.args.replies.now) c.args.self.now in
    on_ok_weaker c.tell_news.result
    (λ told. Carries-one event.Close reply.Closed c.args.core.now c.step.new.self before _ c.in-Closed.ensures.exact c.in-Closed.ensures.sound
    c.in-Closed.ensures.plain tt
    (News-same _ (with_called before (Called event.Close reply.Closed c.step.new.self)) (ap (λ (k : Kept). k.asked) c.tell_news.ensures.rest) refl (c.replace-steps.ensures.after ∙ c.new.ensures)
    (told ∙ ap₂ (λ steps pages. with_news before (Closed (record { mark = before.marks; steps = steps; pages = pages }))) c.replace-steps.ensures.value c.totals.ensures.pages)
    refl)) c.tell_news.ensures.text

pub returns-clause-shards : goal.returns-clause-shards
returns-clause-shards c = KeepsShards-closed c.args.core.now c.step.new.self c.in-Closed.ensures.exact
