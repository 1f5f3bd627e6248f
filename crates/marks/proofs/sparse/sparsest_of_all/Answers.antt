use Rattle.std.proofs.Common.{map}
use Rattle.std.proofs.lemmas.Result.{IfOk-at_ok}
use Rattle.marks.specs.Seen.{IsSeen}
use Rattle.marks.proofs.InPart.{IsSeenInPart-sparsest}
use Rattle.marks.proofs.sparse.sparsest_of_all.Goals as goal

pub returns-clause-seen : goal.returns-clause-seen
returns-clause-seen g c =
    let pool = c.args.pool.now in
    let shards = map g.H.LendsShard.lent c.args.shards.now in
    IsSeenInPart-sparsest pool shards c.in-Ok.snapshot c.sparsest.result
    (IfOk-at_ok (IsSeen pool shards) c.in-Ok.is (c.in_ok-snapshot.ensures {u = tt}).seen) c.sparsest.ensures.abandoned c.sparsest.ensures.owned
    c.sparsest.ensures.abandoned_ascending c.sparsest.ensures.owned_ascending
