use Rattle.std.proofs.Common.{subst, MatchOption}
use Rattle.pool.specs.Calls.{HasNothingToAdopt, IsHeadOfLowest}
use Rattle.pool.specs.StockKept.{state_of}
use Rattle.pool.specs.State.{PoolState}
use Rattle.pool.proofs.Adopted.{lowest-first}
use Rattle.pool.proofs.stock.Stock.lowest_paged.Goals as goal

pub returns-clause-lowest : goal.returns-clause-lowest
returns-clause-lowest g c = subst (λ (p : PoolState). MatchOption c.lowest_paged.result (HasNothingToAdopt p) (IsHeadOfLowest p)) c.self.view_is
    (lowest-first (state_of c.self.inside) c.self.invariant.sound.ascending c.lowest_paged.result c.lowest_paged.ensures.lowest)
