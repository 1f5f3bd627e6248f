use Rattle.trace_runner.proofs.Names.{ap, refl, kept_in, one_call}
use Rattle.arena_core.specs.declared.event.Event.TheVariants as event
use Rattle.arena_core.specs.declared.reply.Reply.TheVariants as reply
use Rattle.trace_runner.proofs.Making.{Makes-called}
use Rattle.trace_runner.proofs.Recalling.{keeping-other}
use Rattle.trace_runner.proofs.Serving.{IsSetServed-step, KeepsPlan-set}
use Rattle.trace_runner.proofs.run.Run.set_key.Goals as goal

pub was_replaced-requires : goal.was_replaced-requires
was_replaced-requires c = IsSetServed-step c.args.self.now.core c.set-set.new.self c.args.key c.args.words.now c.set-set.result c.set-set.ensures.exact

pub returns-clause-made : goal.returns-clause-made
returns-clause-made c =
    let set = event.Set c.args.key c.args.words.now in
    let replaced = reply.Replaced c.in_ok-replaced.replaced in
    let is = c.in_ok-replaced.ensures in
    Makes-called c.args.number set replaced c.args.self.now.core c.set-set.new.self (kept_in c.args.self.now.replies) (kept_in c.tell_set.new.self)
    (rw is at c.set-set.ensures.exact) c.set-set.ensures.sound (rw is at c.set-set.ensures.plain) tt
    (keeping-other c.args.number (kept_in c.args.self.now.replies) (kept_in c.tell_set.new.self) (one_call set replaced c.set-set.new.self)
    c.in_ok-tell_set.ensures.count c.tell_set.ensures.asked c.in_ok-tell_set.ensures.text refl (ap (λ v. v.items) c.tell_set.ensures.keys))

pub returns-in_err-replaced-clause-shards : goal.returns-in_err-replaced-clause-shards
returns-in_err-replaced-clause-shards c = KeepsPlan-set c.args.self.now.core c.set-set.new.self c.args.key c.args.words.now c.set-set.result c.set-set.ensures.exact

pub returns-in_err-tell_set-clause-shards : goal.returns-in_err-tell_set-clause-shards
returns-in_err-tell_set-clause-shards c = KeepsPlan-set c.args.self.now.core c.set-set.new.self c.args.key c.args.words.now c.set-set.result c.set-set.ensures.exact

pub returns-clause-shards : goal.returns-clause-shards
returns-clause-shards c = KeepsPlan-set c.args.self.now.core c.set-set.new.self c.args.key c.args.words.now c.set-set.result c.set-set.ensures.exact
