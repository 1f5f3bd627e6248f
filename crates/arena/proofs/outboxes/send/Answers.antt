use Rattle.std.proofs.Common.{ap, ◌∙◌}
use Rattle.std.proofs.Math.Seq.{map-set_same}
use Rattle.arena.proofs.Sending.{other_places, place_step, sent_step}
use Rattle.arena.proofs.outboxes.send.Goals as goal

pub returns-clause-rings : goal.returns-clause-rings
returns-clause-rings c = map-set_same (λ outbox. outbox.ring) _ _ _ _ (c.send.ensures.ring ∙ ap (λ outbox. outbox.ring) c.index_mut.ensures.value)

pub returns-clause-sent : goal.returns-clause-sent
returns-clause-sent c = sent_step c.args.ends.now.items c.args.key.span.shard c.index_mut.result.now c.send.new.self c.args.key c.send.result
    c.requires c.index_mut.ensures.value c.send.ensures.sent

pub returns-clause-place : goal.returns-clause-place
returns-clause-place c = place_step c.args.ends.now.items c.args.key.span.shard c.index_mut.result.now c.send.new.self c.send.result
    c.requires c.index_mut.ensures.value c.send.ensures.place

pub returns-clause-places : goal.returns-clause-places
returns-clause-places c = λ shard other. other_places c.args.ends.now.items c.args.key.span.shard c.send.new.self shard other
