use Rattle.std.proofs.Common.{arith, refl, ap}
use Rattle.arena_core.specs.State.{CoreState}
use Rattle.arena_core.proofs.MadeFields.{TrimsPart-unused}
use Rattle.arena_core.proofs.machine.Core.trim_no_part.Goals as goal

pub returns-then-number-count : goal.returns-then-number-count
returns-then-number-count g c = record { cause_is = refl; past = omega (arith, c.shards-count.ensures.shards, ap (λ (s : CoreState). s.limits.shards) c.self.view_is); same = refl }

pub returns : goal.returns
returns g c =
    TrimsPart-unused c.args.self.now c.args.number c.args.from c.args.most c.requires (omega (arith, c.shards-count.ensures.shards, ap (λ (s : CoreState). s.limits.shards) c.self.view_is))
