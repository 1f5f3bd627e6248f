use Rattle.std.proofs.Common.{◌∙◌, arith}
use Rattle.shard.proofs.KnownHeads.{KnowsHeads-own}
use Rattle.shard.specs.Heads.{IsNoted}
use Rattle.shard.proofs.head_indexes.HeadIndexes.note_arrival.Goals as goal

pub returns-clause-known : goal.returns-clause-known
returns-clause-known c groups group long is none fits knows =
    KnowsHeads-own c.args.number groups c.args.index group (omega (arith, long, c.requires.within)) c.args.head is none c.make_place.new.self c.write.new.self
    c.write.ensures.base (c.make_place.ensures.known c.args.number groups group long knows)
    (λ mine.
    let from = mine.1 in
    let low = fits (mine.0, omega (arith, from, c.make_place.ensures.base)) in
    c.write.ensures.entry mine (omega (arith, low, c.make_place.ensures.end)))
    c.write.ensures.entries

pub returns-clause-guests : goal.returns-clause-guests
returns-clause-guests c serial from far apart =
    c.write.ensures.others serial (omega (arith, from, c.make_place.ensures.base)) apart ∙ c.make_place.ensures.guests serial far
