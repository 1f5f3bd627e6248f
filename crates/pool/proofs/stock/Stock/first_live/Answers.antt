use Rattle.std.proofs.Common.{subst}
use Rattle.span.specs.Ids.{rank}
use Rattle.groups.specs.FirstLive.{IsFirstAmong}
use Rattle.groups.specs.Group.{spans_in}
use Rattle.groups.proofs.FirstLive.{first-shown}
use Rattle.pool.specs.Sound.{IsSound}
use Rattle.pool.specs.State.{PoolState}
use Rattle.pool.proofs.ShownLogs.{value-here}
use Rattle.pool.proofs.stock.Stock.first_live.Goals as goal

pub returns-clause-first : goal.returns-clause-first
returns-clause-first g c =
    first-shown c.args.self.now.groups (value-here c.args.self.now (subst IsSound c.self.view_is c.self.invariant.sound)) (rank c.args.from) c.first_live.result
    (subst (λ (p : PoolState). IsFirstAmong (spans_in p.groups) (rank c.args.from) c.first_live.result) c.self.view_is c.first_live.ensures)
