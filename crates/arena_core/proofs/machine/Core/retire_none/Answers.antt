use Rattle.std.proofs.Common.{arith, refl, ap, subst}
use Rattle.pool.specs.Sound.{IsSound as IsSoundPool}
use Rattle.arena_core.specs.State.{CoreState}
use Rattle.arena_core.proofs.MadeFields.{CoreStep-retire_unused}
use Rattle.arena_core.proofs.machine.Core.retire_none.Goals as goal

pub returns-then-number-count : goal.returns-then-number-count
returns-then-number-count g c = (omega (arith, c.shards-count.ensures.shards, ap (λ (s : CoreState). s.limits.shards) c.self.view_is), refl)

pub returns : goal.returns
returns g c =
    CoreStep-retire_unused c.args.self.now c.args.number c.args.most (subst (λ (s : CoreState). IsSoundPool s.pool) c.self.view_is c.self.invariant.sound.groups.pool) c.requires (omega (arith, c.shards-count.ensures.shards, ap (λ (s : CoreState). s.limits.shards) c.self.view_is))
