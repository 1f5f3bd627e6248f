use Rattle.std.proofs.Common.{ap, subst}
use Rattle.span.specs.Ids.{rank}
use Rattle.groups.specs.FirstLive.{IsFirstAmong}
use Rattle.groups.specs.Group.{spans_in}
use Rattle.groups.proofs.FirstLive.{first-shown}
use Rattle.shard.specs.Sound.{IsSound}
use Rattle.shard.specs.State.{ShardState}
use Rattle.shard.proofs.ShownLogs.{value-here}
use Rattle.shard.proofs.shard.Shard.first_live.Goals as goal

pub returns-clause-first : goal.returns-clause-first
returns-clause-first g c =
    let groups = ap (λ (s : ShardState). s.groups) c.self.view_is in
    first-shown c.args.self.now.groups (value-here c.args.self.now (subst IsSound c.self.view_is c.self.invariant.sound)) (rank c.args.from) c.first_live.result
    (subst (λ gs. IsFirstAmong (spans_in gs) (rank c.args.from) c.first_live.result) groups c.first_live.ensures)
