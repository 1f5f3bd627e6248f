use Rattle.std.proofs.Common.{subst, ◌↔◌, IsTrue}
use Rattle.pool.specs.Calls.{IsInPool}
use Rattle.pool.specs.StockKept.{state_of}
use Rattle.pool.specs.State.{PoolState}
use Rattle.pool.proofs.InBoth.{Meets-flip}
use Rattle.pool.proofs.stock.Stock.has_one_in.Goals as goal

pub returns-clause-has : goal.returns-clause-has
returns-clause-has g c =
    let ours = c.self.inside.groups.groups in
    let theirs = c.args.shard.now.groups in
    let both : IsTrue c.have_one_in.result ↔ IsInPool (state_of c.self.inside) c.args.shard.now = (
      (λ t. Meets-flip ours theirs (c.have_one_in.ensures.0 t)),
      (λ found. c.have_one_in.ensures.1 (Meets-flip theirs ours found)),
    ) in
    subst (λ (s : PoolState). IsTrue c.have_one_in.result ↔ IsInPool s c.args.shard.now) c.self.view_is both
