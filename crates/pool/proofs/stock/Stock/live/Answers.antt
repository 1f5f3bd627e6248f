use Rattle.std.proofs.Common.{◌∙◌, ◌≤◌, ap, length, subst}
use Rattle.span.specs.declared.limits.TheConstants.{ALL_IDS}
use Rattle.pool.specs.State.{PoolState}
use Rattle.groups.specs.Group.{live_in}
use Rattle.pool.proofs.HeadPlaces.{at_most_ids}
use Rattle.pool.proofs.LiveKeys.{live_count-paged}
use Rattle.pool.proofs.stock.Stock.live.Goals as goal

pub returns-clause-live : goal.returns-clause-live
returns-clause-live g c = c.live.ensures.live ∙ live_count-paged c.self.inside.groups.groups c.self.invariant.sound.groups ∙ ap (λ (p : PoolState). live_in p.groups) c.self.view_is

pub returns-clause-groups : goal.returns-clause-groups
returns-clause-groups g c = subst (λ (p : PoolState). length p.groups ≤ ALL_IDS) c.self.view_is (at_most_ids c.self.inside.groups.groups c.self.invariant.sound.ascending)
