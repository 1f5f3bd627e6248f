use Rattle.std.specs.Prelude.{is_some}
use Rattle.pool.specs.StockKept.{state_of}
use Rattle.pool.specs.State.{PooledState, paged_groups}
use Rattle.groups.proofs.Heads.{IsStrictlyIncreasing-heads}
use Rattle.groups.proofs.Standing.{head_id}
use Rattle.pool.proofs.Heads.{Ascend-filter}
use Rattle.pool.proofs.stock.Stock.sparse_groups.Goals as goal

pub returns-clause-ascending : goal.returns-clause-ascending
returns-clause-ascending g c =
    rw (← c.self.view_is) (IsStrictlyIncreasing-heads head_id (paged_groups (state_of c.self.inside))
    (Ascend-filter (λ (g : PooledState). is_some g.page) c.self.inside.groups.groups c.self.invariant.sound.ascending))
