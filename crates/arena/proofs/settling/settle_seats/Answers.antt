use Rattle.std.proofs.Common.{◌≢◌, ◌<◌, ◌∙◌, ap, rules, arith, length}
use Rattle.std.proofs.Math.Seq.{map-set_same}
use Rattle.std.proofs.lemmas.List.{get_or-set_other}
use Rattle.arena.specs.Seats.{SeatState, in_rings, sending_side, taken_lists}
use Rattle.arena.specs.Settled.{taken_with_known}
use Rattle.arena.proofs.Linking.{frees_more, frees_of}
use Rattle.arena.proofs.Made.{same_both}
use Rattle.arena.proofs.SettledRings.{set_each}
use Rattle.arena.proofs.settling.settle_seats.Goals as goal

pub loop-shard-preserved : goal.loop-shard-preserved
loop-shard-preserved g c =
    let inv = c.loop-shard.invariant in
    let s = c.loop-shard.shard in
    let x = c.index-seats-shard.result in
    let one = c.settle.ensures in
    let seat = inv.seats_left s x (omega arith) in
    let below : s < length c.args.seats.now = search rules in
    let within : s < length c.loop-shard.seats = search rules in
    let listed : s < length c.args.receipts.now = search rules in
    record {
      wide = search rules;
      seats_left = λ k d past. let other : k ≢ s = omega arith in rw get_or-set_other (inv.seats_left k d (omega arith));
      lists_left = λ k d past. let other : k ≢ s = omega arith in rw get_or-set_other (inv.lists_left k d (omega arith));
      sending = map-set_same sending_side c.loop-shard.seats s c.settle.new.self x one.seat.0 ∙ inv.sending;
      tables = map-set_same (λ (seat : SeatState). seat.table) c.loop-shard.seats s c.settle.new.self x one.table ∙ inv.tables;
      outboxes = map-set_same (λ (seat : SeatState). seat.outboxes) c.loop-shard.seats s c.settle.new.self x one.outboxes ∙ inv.outboxes;
      rings = map-set_same in_rings c.loop-shard.seats s c.settle.new.self x one.seat.1 ∙ inv.rings;
      taken = set_each (λ (seat : SeatState). taken_lists seat.inboxes) (λ (seat : SeatState). taken_with_known seat.inboxes) c.args.seats.now c.loop-shard.seats s c.settle.new.self x within below
          (one.taken ∙ ap (λ (seat : SeatState). taken_with_known seat.inboxes) seat) inv.taken;
      done =
          frees_more g.K.Receipts.told c.args.section c.args.seats.now c.args.receipts.now c.loop-shard.receipts s x c.index-receipts-shard.result c.settle.new.receipts below listed (search rules)
          (frees_of g.K.Receipts.told _ s c.args.section _ _ _ _ c.settle.new.receipts seat (ap (λ x. x.worker) seat ∙ c.requires.in_order s x below)
          (inv.lists_left s c.index-receipts-shard.result (omega arith)) one.freed) inv.done;
    }

pub returns-clause-taken : goal.returns-clause-taken
returns-clause-taken g c =
    let inv = c.loop-shard.invariant in
    same_both (λ (seat : SeatState). taken_lists seat.inboxes)
    (λ (seat : SeatState). taken_with_known seat.inboxes) c.loop-shard.seats c.args.seats.now inv.wide
    (λ k d e h. inv.taken k d e (omega (arith, inv.wide)))
