use Rattle.std.proofs.Common.{refl, subst}
use Rattle.pool.specs.State.{PoolState}
use Rattle.pool.proofs.Here.{HasSpanAt}
use Rattle.pool.proofs.stock.Stock.find.Goals as goal

-- a head
pub returns-clause-place : goal.returns-clause-place
returns-clause-place g c =
    let at = c.in-Some.ensures in
    subst (λ (p : PoolState). HasSpanAt p.groups c.args.id 0 c.in-Some.group.now) c.self.view_is
    (at.0, c.in-Some.group.now.head, record { group_is = at.1.here; span_is = refl; id_is = at.1.head_is })
