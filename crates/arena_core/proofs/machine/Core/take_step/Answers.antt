use Rattle.std.proofs.Common.{subst, sym, ◌∙◌}
use Rattle.arena_core.specs.Kept.{state_of}
use Rattle.arena_core.specs.State.{CoreState}
use Rattle.arena_core.specs.Moved.{StandsIn}
use Rattle.arena_core.proofs.MarkSteps.{next-IsNext, owned-stands}
use Rattle.arena_core.proofs.machine.Core.take_step.Goals as goal

pub number_of-number-requires : goal.number_of-number-requires
number_of-number-requires g c =
    let (plan, next) = next-IsNext (state_of c.self.inside) (c.in-Some.abandoned, c.in-Some.owned) (sym c.next.ensures ∙ c.in-Some.is) in
    let there = owned-stands (state_of c.self.inside) c.self.invariant.sound plan (c.in-Some.abandoned, c.in-Some.owned) next in
    (there.0, subst (λ (s : CoreState). StandsIn s.shards c.in-Some.owned there.0) c.self.view_is there.1)
