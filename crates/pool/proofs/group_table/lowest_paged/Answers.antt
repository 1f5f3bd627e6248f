use Rattle.std.proofs.Common.{◌∙◌, ◌∷◌, arith}
use Rattle.std.specs.FinMap as table
use Rattle.std.proofs.lemmas.List.Sorted.{length_permutation}
use Rattle.pool.specs.Ranked.{in_order}
use Rattle.pool.proofs.NotedRanks.{AreNoted-dropped, AreNoted-in_order, HasNoPage-none, IsHeadOfFirstPaged-least}
use Rattle.pool.proofs.RankedGroups.{AreUp-found}
use Rattle.pool.proofs.group_table.lowest_paged.Goals as goal

pub returns-in-Some-paged_head-clause-lowest : goal.returns-in-Some-paged_head-clause-lowest
returns-in-Some-paged_head-clause-lowest g c =
    let row = c.args.row.now in
    IsHeadOfFirstPaged-least (in_order row) c.loop-rank.paged.ranks (AreNoted-in_order row c.loop-rank.paged.ranks c.loop-rank.invariant.noted)
    (AreUp-found row (table.get c.args.places.now.entries) c.requires.found) c.in-Some.rank
    c.in-Some.ensures c.in-Some-paged_head.head c.in-Some-paged_head.ensures

pub loop-rank-smaller : goal.loop-rank-smaller
loop-rank-smaller g c =
    let moved = c.drop_least.ensures.dropped c.in-Some.rank c.in-Some.ensures in
    omega (arith, length_permutation c.loop-rank.paged.ranks (c.in-Some.rank ∷ c.drop_least.new.self.ranks) moved)

pub loop-rank-preserved : goal.loop-rank-preserved
loop-rank-preserved g c =
    let moved = c.drop_least.ensures.dropped c.in-Some.rank c.in-Some.ensures in
    record {
      noted = AreNoted-dropped c.args.row.now c.loop-rank.paged.ranks c.loop-rank.invariant.noted c.in-Some.rank c.in_default-paged_head.ensures c.drop_least.new.self.ranks moved;
      fewer = omega (arith, length_permutation c.loop-rank.paged.ranks (c.in-Some.rank ∷ c.drop_least.new.self.ranks) moved, c.loop-rank.invariant.fewer);
      capacity = c.drop_least.ensures.capacity ∙ c.loop-rank.invariant.capacity;
    }

pub returns-clause-lowest : goal.returns-clause-lowest
returns-clause-lowest g c =
    let row = c.args.row.now in
    HasNoPage-none (in_order row) c.loop-rank.paged.ranks (AreNoted-in_order row c.loop-rank.paged.ranks c.loop-rank.invariant.noted) c.in_default.ensures
