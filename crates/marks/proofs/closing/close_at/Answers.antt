use Rattle.std.proofs.Common.{subst, sym}
use Rattle.shard.specs.Closes.{Closes}
use Rattle.marks.proofs.OneShard.{ClosesAt-lent}
use Rattle.marks.proofs.closing.close_at.Goals as goal

pub returns : goal.returns
returns g c =
    let lent = g.H.LendsShard.lent in
    let lender = c.index-shards-place.result in
    ClosesAt-lent lent c.args.shards.now c.args.place lender c.close.new.self c.args.head c.close.result c.if-place-shards.false c.index-shards-place.is
    (subst (λ was. Closes (lent was) c.args.head c.close.result (lent c.close.new.self)) (sym c.index-shards-place.is) c.close.ensures.closes) c.close.ensures.sound
