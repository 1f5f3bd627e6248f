use Rattle.trace_runner.proofs.Names.{ap, refl, kept_in, one_call}
use Rattle.arena_core.specs.declared.event.Event.TheVariants as event
use Rattle.arena_core.specs.declared.reply.Reply.TheVariants as reply
use Rattle.trace_runner.proofs.Making.{Makes-called}
use Rattle.trace_runner.proofs.Recalling.{keeping-other}
use Rattle.trace_runner.proofs.Serving.{KeepsPlan-step}
use Rattle.trace_runner.proofs.run.Run.free_key.Goals as goal

pub returns-clause-made : goal.returns-clause-made
returns-clause-made c =
    let free = event.Free c.args.key in
    let freed = reply.Freed c.free-freed.result in
    Makes-called c.args.number free freed c.args.self.now.core c.free-freed.new.self (kept_in c.args.self.now.replies) (kept_in c.tell_free.new.self)
    c.free-freed.ensures.exact c.free-freed.ensures.sound c.free-freed.ensures.plain tt
    (keeping-other c.args.number (kept_in c.args.self.now.replies) (kept_in c.tell_free.new.self) (one_call free freed c.free-freed.new.self)
    c.in_ok-tell_free.ensures.count c.tell_free.ensures.asked c.in_ok-tell_free.ensures.text refl (ap (λ v. v.items) c.tell_free.ensures.keys))

pub returns-in_err-tell_free-clause-shards : goal.returns-in_err-tell_free-clause-shards
returns-in_err-tell_free-clause-shards c = KeepsPlan-step _ _ (event.Free c.args.key) (reply.Freed c.free-freed.result) tt c.free-freed.ensures.exact

pub returns-clause-shards : goal.returns-clause-shards
returns-clause-shards c = KeepsPlan-step _ _ (event.Free c.args.key) (reply.Freed c.free-freed.result) tt c.free-freed.ensures.exact
