use Rattle.std.proofs.Common.{subst}
use Rattle.span.specs.Ids.{rank}
use Rattle.arena_core.specs.NextLive.{IsFirstStanding}
use Rattle.arena_core.specs.Sound.{IsSound}
use Rattle.arena_core.specs.State.{CoreState}
use Rattle.arena_core.proofs.MadeWalked.{IsFirstStanding-all}
use Rattle.arena_core.proofs.NextLive.{first-standing}
use Rattle.arena_core.proofs.machine.Core.first_of_all.Goals as goal

pub returns : goal.returns
returns g c =
    first-standing c.args.self.now (subst IsSound c.self.view_is c.self.invariant.sound).groups (rank c.args.from) c.first_standing.result
    (subst (λ (s : CoreState). IsFirstStanding s.shards s.pool (rank c.args.from) c.first_standing.result) c.self.view_is
    (IsFirstStanding-all c.self.inside.limits c.self.inside.shards.items c.self.inside.pool (rank c.args.from) c.first_standing.result
    (subst (λ shards. IsFirstStanding shards c.self.inside.pool (rank c.args.from) c.first_standing.result) c.as_slice.ensures.value c.first_standing.ensures)))
