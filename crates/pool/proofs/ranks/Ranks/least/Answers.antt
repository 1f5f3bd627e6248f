use Rattle.std.proofs.Common.{arith, heap_items, refl}
use Rattle.pool.proofs.NotedRanks.{All-top, Contains-top}
use Rattle.pool.proofs.ranks.Ranks.least.Goals as goal

pub returns : goal.returns
returns c =
    let some = c.in_ok-rank.ensures.variant.0 refl in
    rw (← c.self.view_is) (
      Contains-top (heap_items c.self.inside.heap) c.in_ok-rank.field-0.now (omega (arith, some, c.self.inside.heap.data.ok.0)) c.in_ok-rank.ensures.lookup,
      All-top (heap_items c.self.inside.heap) c.in_ok-rank.field-0.now (c.in_ok-rank.ensures.greatest c.self.invariant.ordered),
    )
