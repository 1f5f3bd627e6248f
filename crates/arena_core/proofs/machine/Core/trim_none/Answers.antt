use Rattle.std.proofs.Common.{arith, refl, ap}
use Rattle.arena_core.specs.State.{CoreState}
use Rattle.arena_core.proofs.MadeFields.{CoreStep-trim_unused}
use Rattle.arena_core.proofs.machine.Core.trim_none.Goals as goal

pub returns-then-number-count : goal.returns-then-number-count
returns-then-number-count g c = (omega (arith, c.shards-count.ensures.shards, ap (λ (s : CoreState). s.limits.shards) c.self.view_is), refl)

pub returns : goal.returns
returns g c =
    CoreStep-trim_unused c.args.self.now c.args.number c.requires (omega (arith, c.shards-count.ensures.shards, ap (λ (s : CoreState). s.limits.shards) c.self.view_is))
