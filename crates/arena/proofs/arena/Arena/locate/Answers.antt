use Rattle.std.proofs.Common.{◌↔◌, IsTrue, subst}
use Rattle.pool.specs.State.{PoolState}
use Rattle.groups.specs.Group.{IsElsewhere}
use Rattle.arena.proofs.Elsewhere.{IsElsewhere-not_had}
use Rattle.arena.proofs.arena.Arena.locate.Goals as goal

pub locate_lent-requires-clause-unpooled : goal.locate_lent-requires-clause-unpooled
locate_lent-requires-clause-unpooled g c =
    let has : IsTrue c.has.result ↔ (IsElsewhere c.in_ok-pool.pool.value.value.groups c.args.id → ⊥) =
    subst (λ (pool : PoolState). IsTrue c.has.result ↔ (IsElsewhere pool.groups c.args.id → ⊥)) c.deref.ensures c.has.ensures in
    IsElsewhere-not_had c.in_ok-pool.pool.value.value.groups c.args.id c.has.result has c.if-has.false
