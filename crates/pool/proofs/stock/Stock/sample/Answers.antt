use Rattle.std.proofs.Common.{◌≤◌, length, subst}
use Rattle.span.specs.declared.limits.TheConstants.{ALL_IDS}
use Rattle.pool.specs.State.{PoolState}
use Rattle.pool.proofs.HeadPlaces.{at_most_ids}
use Rattle.pool.proofs.stock.Stock.sample.Goals as goal

pub returns-clause-groups : goal.returns-clause-groups
returns-clause-groups g c = subst (λ (p : PoolState). length p.groups ≤ ALL_IDS) c.self.view_is (at_most_ids c.self.inside.groups.groups c.self.invariant.sound.ascending)
