use Rattle.trace_runner.proofs.Names.{refl, ap, subst, on_ok_weaker, CoreStep, Refusal, Kept, kept_in, Called, News, with_called, news_at}
use Rattle.arena_core.specs.declared.event.Event.TheVariants as event
use Rattle.arena_core.specs.declared.reply.Reply.TheVariants as reply
use Rattle.arena_core.specs.declared.reply.Refusal.TheVariants as refusal
use Rattle.trace_runner.proofs.Making.{Carries-one}
use Rattle.trace_runner.proofs.PlanSteps.{KeepsShards-marked, News-same}
use Rattle.trace_runner.proofs.plans.Plans.mark.Goals as goal

pub planned-requires-clause-writable : goal.planned-requires-clause-writable
planned-requires-clause-writable g c = c.in-Marked.ensures.exact.largest.shown.writable

pub returns-in-Marked-clause-made : goal.returns-in-Marked-clause-made
returns-in-Marked-clause-made g c = on_ok_weaker c.planned.result
    (Carries-one event.Mark (reply.Marked c.in-Marked.certificate) c.args.core.now c.step_by.new.self (news_at (kept_in c.args.replies.now) c.args.self.now)
    (news_at (kept_in c.planned.new.replies) c.planned.new.self)
    c.in-Marked.ensures.exact c.in-Marked.ensures.sound c.in-Marked.ensures.plain tt) c.planned.ensures.news

pub returns-in-Marked-clause-shards : goal.returns-in-Marked-clause-shards
returns-in-Marked-clause-shards g c = KeepsShards-marked c.args.core.now c.step_by.new.self c.in-Marked.certificate c.in-Marked.ensures.exact

pub returns-in-Refused-TooMany-clause-made : goal.returns-in-Refused-TooMany-clause-made
returns-in-Refused-TooMany-clause-made g c =
    let before : News = news_at (kept_in c.args.replies.now) c.args.self.now in
    let w = c.in-Refused-TooMany in
    on_ok_weaker c.tell_news.result (λ told. Carries-one event.Mark (reply.Refused refusal.TooMany) c.args.core.now c.step_by.new.self before _
    (subst (λ (r : Refusal). CoreStep c.args.core.now event.Mark (reply.Refused r) c.step_by.new.self) w.field-0-is w.ensures.exact) w.ensures.sound w.ensures.plain tt
    (News-same _ (with_called before (Called event.Mark (reply.Refused refusal.TooMany) c.step_by.new.self))
    (ap (λ (k : Kept). k.asked) c.tell_news.ensures.rest) refl refl told refl)) c.tell_news.ensures.text
