use Rattle.std.proofs.Common.{heap_items, heap_len, sym}
use Rattle.pool.proofs.NotedRanks.{dropped}
use Rattle.pool.proofs.ranks.Ranks.drop_least.Goals as goal

pub returns-clause-dropped : goal.returns-clause-dropped
returns-clause-dropped c = rw (← c.self.view_is)
    (dropped (heap_items c.self.inside.heap) (heap_items c.pop.new.self) c.self.invariant.ordered (heap_len c.self.inside.heap)
    (sym c.self.inside.heap.data.ok.0) c.pop.result c.pop.ensures.permutation c.pop.ensures.heap_order c.pop.ensures.top c.pop.ensures.none)
