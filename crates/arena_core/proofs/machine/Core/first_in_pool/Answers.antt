use Rattle.std.proofs.Common.{subst, MatchOption}
use Rattle.span.specs.Order.{HasNoneFrom, IsFirstFrom}
use Rattle.pool.specs.Shown.{shown as shown_by_pool}
use Rattle.arena_core.specs.Sound.{IsSound}
use Rattle.arena_core.specs.State.{CoreState}
use Rattle.arena_core.proofs.NextLive.{first-pool}
use Rattle.arena_core.proofs.machine.Core.first_in_pool.Goals as goal

pub returns : goal.returns
returns g c =
    first-pool c.args.self.now (subst IsSound c.self.view_is c.self.invariant.sound).groups c.args.id c.args.slot c.first_from.result c.requires
    (subst (λ (s : CoreState). MatchOption c.first_from.result (HasNoneFrom (shown_by_pool s.pool) c.args.id c.args.slot)
    (IsFirstFrom (shown_by_pool s.pool) c.args.id c.args.slot)) c.self.view_is c.first_from.ensures.first)
