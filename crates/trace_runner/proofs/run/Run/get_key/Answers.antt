use Rattle.trace_runner.proofs.Names.{ap, option_map, refl, kept_in, one_call}
use Rattle.arena_core.specs.declared.event.Event.TheVariants as event
use Rattle.arena_core.specs.declared.reply.Reply.TheVariants as reply
use Rattle.trace_runner.proofs.Making.{Makes-called}
use Rattle.trace_runner.proofs.Recalling.{keeping-other}
use Rattle.trace_runner.proofs.Serving.{KeepsPlan-step}
use Rattle.trace_runner.proofs.run.Run.get_key.Goals as goal

pub returns-clause-made : goal.returns-clause-made
returns-clause-made c =
    let get = event.Get c.args.key in
    let found = reply.Found (option_map (λ words. words.now) c.get-found.result) in
    Makes-called c.args.number get found c.args.self.now.core c.args.self.now.core (kept_in c.args.self.now.replies) (kept_in c.tell_look_up.new.self)
    (c.get-found.ensures.value, refl) c.get-found.ensures.sound (c.get-found.ensures.value, refl) tt
    (keeping-other c.args.number (kept_in c.args.self.now.replies) (kept_in c.tell_look_up.new.self) (one_call get found c.args.self.now.core)
    c.in_ok-tell_look_up.ensures.count c.tell_look_up.ensures.asked c.in_ok-tell_look_up.ensures.text refl (ap (λ v. v.items) c.tell_look_up.ensures.keys))

pub returns-in_err-tell_look_up-clause-shards : goal.returns-in_err-tell_look_up-clause-shards
returns-in_err-tell_look_up-clause-shards c = KeepsPlan-step _ _ (event.Get c.args.key) (reply.Found (option_map (λ words. words.now) c.get-found.result)) tt (c.get-found.ensures.value, refl)

pub returns-clause-shards : goal.returns-clause-shards
returns-clause-shards c = KeepsPlan-step _ _ (event.Get c.args.key) (reply.Found (option_map (λ words. words.now) c.get-found.result)) tt (c.get-found.ensures.value, refl)
