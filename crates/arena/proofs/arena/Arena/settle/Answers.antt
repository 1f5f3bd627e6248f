use Rattle.std.proofs.Common.{◌∙◌, arith, vec_items}
use Rattle.arena.proofs.Ended.{all_settled}
use Rattle.arena.proofs.SeatRings.{AreSeatsOf-same}
use Rattle.arena.proofs.SettledRings.{AreLinked-emptied, emptied_from}
use Rattle.arena.proofs.arena.Arena.settle.Goals as goal

pub returns-in_err-counts-clause-seats : goal.returns-in_err-counts-clause-seats
returns-in_err-counts-clause-seats g c =
    AreSeatsOf-same c.args.self.now.limits c.args.self.now.table c.args.seats.now c.make_room.new.seats c.make_room.ensures.same.sending c.make_room.ensures.same.tables c.requires.seats

pub returns-clause-seats : goal.returns-clause-seats
returns-clause-seats g c =
    AreSeatsOf-same c.args.self.now.limits c.args.self.now.table c.args.seats.now c.settle_seats.new.seats
    (c.settle_seats.ensures.sending ∙ c.make_room.ensures.same.sending) (c.settle_seats.ensures.tables ∙ c.make_room.ensures.same.tables) c.requires.seats

pub returns-clause-settled : goal.returns-clause-settled
returns-clause-settled g c =
    all_settled g.K.Receipts.told vec_items c.args.seats.now c.make_room.new.seats c.greatest_section-section.result c.in_ok-counts.counts.items c.args.receipts.now
    c.make_room.new.receipts c.settle_seats.new.receipts
    c.greatest_section-section.ensures c.make_room.ensures.same c.make_room.ensures.told c.requires.lists c.in_ok-counts.ensures.counted
    c.settle_seats.ensures.freed

pub returns-clause-emptied : goal.returns-clause-emptied
returns-clause-emptied g c =
    emptied_from vec_items c.args.seats.now c.make_room.new.seats c.settle_seats.new.seats c.in_ok-counts.counts.items
    (omega (arith, c.in_ok-counts.ensures.len, c.in_ok-counts.counts.ok.0)) c.make_room.ensures.same c.in_ok-counts.ensures.counted
    c.settle_seats.ensures.sending c.settle_seats.ensures.tables c.settle_seats.ensures.outboxes c.settle_seats.ensures.rings c.settle_seats.ensures.taken

pub returns-clause-linked : goal.returns-clause-linked
returns-clause-linked g c = AreLinked-emptied c.args.seats.now c.settle_seats.new.seats (returns-clause-emptied g c) c.know_rings.ensures.linked
