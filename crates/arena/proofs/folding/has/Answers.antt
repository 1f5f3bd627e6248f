use Rattle.std.proofs.Common.{◌↔◌, IsTrue, option_map, subst, sym}
use Rattle.groups.specs.Group.{IsElsewhere}
use Rattle.arena.specs.Locked.{HasGroup}
use Rattle.arena.proofs.folding.has.Goals as goal

pub returns-in-Some : goal.returns-in-Some
returns-in-Some g c =
    subst (λ o. IsTrue c.has.result ↔ HasGroup c.args.owned (option_map (λ locked. locked.guard.value.value) o)) (sym c.in-Some.is)
    (subst (λ shard. IsTrue c.has.result ↔ (IsElsewhere shard.groups c.args.owned → ⊥)) c.shard.ensures c.has.ensures)
