use Rattle.std.proofs.Common.{rules, arith, refl, ap, ◌∙◌}
use Rattle.remote_queue.specs.Rings.{Sending}
use Rattle.arena.proofs.Sending.{KeepSent-more, KeepSent-set}
use Rattle.arena.proofs.SettledRings.{set_each}
use Rattle.arena.proofs.outboxes.hand_over_all.Goals as goal

pub loop-shard-init : goal.loop-shard-init
loop-shard-init c = record { kept = record { len = refl; rings_are = refl; sent_are = refl; places = λ k. omega arith }; none = λ k d h. absurd (omega arith) }

pub loop-shard-preserved : goal.loop-shard-preserved
loop-shard-preserved c =
    let was = c.loop-shard.invariant in
    let done = c.hand_over.ensures in
    let items = c.loop-shard.ends.items in
    let at = c.index_mut.ensures.value in
    record {
      kept = KeepSent-more _ _ _ was.kept (KeepSent-set items c.loop-shard.shard c.hand_over.new.self c.index_mut.result.now (done.ring ∙ ap (λ o. o.ring) at)
          (done.sent ∙ ap (λ o. o.sent) at) (omega (arith, done.free, ap (λ (o : Sending). o.free) at)));
      none = λ k d h. set_each (λ (o : Sending). o.waiting) (λ (o : Sending). 0) items items c.loop-shard.shard c.hand_over.new.self d (search rules)
          (search rules) done.none (λ k d e below. was.none k d below) k d d h;
    }
