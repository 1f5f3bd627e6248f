use Rattle.std.proofs.Common.{◌<◌, ◌∙◌, [], ap, arith, length, sym}
use Rattle.std.proofs.lemmas.List.{get_or-map}
use Rattle.remote_queue.specs.Rings.{Sending}
use Rattle.arena.proofs.Sending.{KeepSent-set, read_within}
use Rattle.arena.proofs.outboxes.Outboxes.count_left.Goals as goal

pub returns-clause-kept : goal.returns-clause-kept
returns-clause-kept c =
    let at = c.index_mut.ensures.value in
    let same = c.count_left.ensures.outbox in
    rw (← c.self.view_is) (KeepSent-set c.self.inside.ends.items c.args.shard c.count_left.new.outbox c.index_mut.result.now (same.0 ∙ ap (λ o. o.ring) at)
    (same.1 ∙ ap (λ o. o.sent) at) (omega (arith, same.2, ap (λ (o : Sending). o.free) at)))

pub returns-clause-whole : goal.returns-clause-whole
returns-clause-whole c =
    let items = c.self.inside.ends.items in
    let ring = rw (← c.self.view_is) at c.requires in
    let below : c.args.shard < length items = read_within (λ o. o.ring) items c.args.shard _ ring in
    rw (← c.self.view_is) (get_or-map (λ o. o.sent) items c.args.shard c.index_mut.result.now [] below ∙ ap (λ o. o.sent) (sym c.index_mut.ensures.value)
    ∙ sym c.count_left.ensures.outbox.1 ∙ sym c.count_left.ensures.settled)
