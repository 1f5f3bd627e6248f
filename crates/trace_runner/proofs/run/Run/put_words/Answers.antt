use Rattle.trace_runner.proofs.Names.{◌∙◌, ◌++◌, ◌∷◌, [], ap, refl, sym, shown, PlainStep, kept_in, one_call, reply_to_put}
use Rattle.arena_core.specs.declared.event.Event.TheVariants as event
use Rattle.trace_runner.proofs.Making.{Makes-called}
use Rattle.trace_runner.proofs.Recalling.{answer_key, answer_key-put_told, answer_key-told, keeping-put}
use Rattle.trace_runner.proofs.Serving.{CoreStep-put, IsPutServed-step, KeepsPlan-put, reply_to_put-each}
use Rattle.trace_runner.proofs.run.Run.put_words.Goals as goal

pub key_of_put-requires : goal.key_of_put-requires
key_of_put-requires c =
    let old = c.args.self.now.core in
    let new = c.put_words-put.new.self in
    IsPutServed-step old new c.args.thread c.args.words.now c.put_words-put.result c.requires.running
    (CoreStep-put old new c.args.thread c.args.words.now c.put_words-put.result c.put_words-put.ensures.exact)

pub returns-clause-made : goal.returns-clause-made
returns-clause-made c =
    let put = event.Put c.args.thread c.args.words.now in
    let reply = reply_to_put c.put_words-put.result in
    let old = c.args.self.now.core in
    let new = c.put_words-put.new.self in
    let answered = c.in_ok-key.ensures.key in
    (Makes-called c.args.number put reply old new (kept_in c.args.self.now.replies) (kept_in c.tell_put.new.self)
    (CoreStep-put old new c.args.thread c.args.words.now c.put_words-put.result c.put_words-put.ensures.exact) c.put_words-put.ensures.sound
    (reply_to_put-each (λ r. PlainStep old.limits (shown old) put r (shown new)) c.put_words-put.result c.put_words-put.ensures.plain) (c.in_ok-key.ensures.told put)
    (keeping-put c.args.number (kept_in c.args.self.now.replies) (kept_in c.tell_put.new.self) (one_call put reply new)
    c.in_ok-tell_put.ensures.count c.tell_put.ensures.asked (rw answered at c.in_ok-tell_put.ensures.text) refl
    (c.in_ok-tell_put.ensures.keys ∙ ap (λ k. c.args.self.now.replies.keys.items ++ k ∷ []) (sym (answer_key-put_told c.in_ok-key.key) ∙ (ap answer_key answered ∙ answer_key-told put reply new)))))

pub returns-in_err-key-clause-shards : goal.returns-in_err-key-clause-shards
returns-in_err-key-clause-shards c = KeepsPlan-put _ _ c.args.thread c.args.words.now c.put_words-put.result c.requires.running c.put_words-put.ensures.exact

pub returns-in_err-tell_put-clause-shards : goal.returns-in_err-tell_put-clause-shards
returns-in_err-tell_put-clause-shards c = KeepsPlan-put _ _ c.args.thread c.args.words.now c.put_words-put.result c.requires.running c.put_words-put.ensures.exact

pub returns-clause-shards : goal.returns-clause-shards
returns-clause-shards c = KeepsPlan-put _ _ c.args.thread c.args.words.now c.put_words-put.result c.requires.running c.put_words-put.ensures.exact
