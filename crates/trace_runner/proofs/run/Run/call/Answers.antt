use Rattle.trace_runner.proofs.Names.{ap, kept_in, one_call}
use Rattle.trace_runner.proofs.Making.{Makes-called}
use Rattle.trace_runner.proofs.Recalling.{keeping-other}
use Rattle.trace_runner.proofs.Serving.{IsServed-step, KeepsPlan-step, MeetsPlan-step}
use Rattle.trace_runner.proofs.run.Run.call.Goals as goal

pub answer_to-requires : goal.answer_to-requires
answer_to-requires c = IsServed-step _ _ c.args.event c.step-reply.result c.requires.may c.step-reply.ensures.exact

pub returns-clause-made : goal.returns-clause-made
returns-clause-made c =
    let answered = c.in_ok-answer.ensures.answer in
    Makes-called c.args.number c.args.event c.step-reply.result c.args.self.now.core c.step-reply.new.self (kept_in c.args.self.now.replies) (kept_in c.tell.new.self)
    c.step-reply.ensures.exact c.step-reply.ensures.sound c.step-reply.ensures.plain
    (c.in_ok-answer.ensures.told c.args.event (MeetsPlan-step _ _ c.args.event c.step-reply.result c.requires.may c.step-reply.ensures.exact))
    (keeping-other c.args.number (kept_in c.args.self.now.replies) (kept_in c.tell.new.self) (one_call c.args.event c.step-reply.result c.step-reply.new.self)
    c.in_ok-tell.ensures.count c.tell.ensures.asked (rw answered at c.in_ok-tell.ensures.text) c.requires.kind (ap (λ v. v.items) c.tell.ensures.keys))

pub returns-in_err-answer-clause-shards : goal.returns-in_err-answer-clause-shards
returns-in_err-answer-clause-shards c = KeepsPlan-step _ _ c.args.event c.step-reply.result c.requires.may c.step-reply.ensures.exact

pub returns-in_err-tell-clause-shards : goal.returns-in_err-tell-clause-shards
returns-in_err-tell-clause-shards c = KeepsPlan-step _ _ c.args.event c.step-reply.result c.requires.may c.step-reply.ensures.exact

pub returns-clause-shards : goal.returns-clause-shards
returns-clause-shards c = KeepsPlan-step _ _ c.args.event c.step-reply.result c.requires.may c.step-reply.ensures.exact
