use Rattle.std.proofs.Common.{vec_items}
use Rattle.arena.proofs.Ended.{all_settled}
use Rattle.arena.proofs.ending.settled.Goals as goal

pub returns-clause-settled : goal.returns-clause-settled
returns-clause-settled g c =
    all_settled g.K.Receipts.told vec_items c.args.seats.now c.make_room.new.seats c.greatest_section-section.result c.in_ok-counts.counts.items c.args.receipts.now
    c.make_room.new.receipts c.settle_seats.new.receipts
    c.greatest_section-section.ensures c.make_room.ensures.same c.make_room.ensures.told c.requires.lists c.in_ok-counts.ensures.counted
    c.settle_seats.ensures.freed
