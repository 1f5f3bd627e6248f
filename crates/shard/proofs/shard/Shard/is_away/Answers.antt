use Rattle.std.proofs.Common.{arith, eqb-true, subst}
use Rattle.groups.specs.Group.{IsElsewhere}
use Rattle.shard.specs.State.{ShardState}
use Rattle.shard.proofs.NotedGuests.{IsElsewhere-away}
use Rattle.shard.proofs.shard.Shard.is_away.Goals as goal

pub returns-then-id-self : goal.returns-then-id-self
returns-then-id-self g c is =
    let away = c.tells_away.ensures is in
    let limit = c.self.invariant.sound.limit in
    subst (λ (s : ShardState). IsElsewhere s.groups c.args.id) c.self.view_is
    (IsElsewhere-away c.self.inside.number c.self.inside.groups.items c.self.inside.guests.directory.entries c.self.inside.heads (omega (arith, limit, c.self.invariant.pages_fit))
    c.self.invariant.heads_known c.self.invariant.guests_known c.self.invariant.others_known c.args.id (omega arith, away.0) away.1)
