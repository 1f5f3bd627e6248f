use Rattle.std.proofs.Common.{◌≡◌, ◌∙◌, List, MatchResult, None, ap, subst, sym}
use Rattle.arena_core.specs.declared.reply.Refusal.TheVariants.{Config}
use Rattle.arena_core.specs.Rings.{RingState, Takes, new_rings, ring_at}
use Rattle.arena_core.specs.RingsKept.{rings_in}
use Rattle.arena_core.proofs.RingSteps.{Takes-unmade}
use Rattle.arena_core.proofs.late_rings.LateRings.take.Goals as goal

pub returns-in-Unmade : goal.returns-in-Unmade
returns-in-Unmade c =
    let all = new_rings c.in-Unmade.shards c.in-Unmade.capacity in
    subst (λ (s : List (List RingState)). MatchResult c.none_waits.result (λ found. Takes s c.args.worker c.args.shard found all)
    (λ refusal. (refusal ≡ Config) × (ring_at s c.args.worker c.args.shard ≡ None) × (all ≡ s))) (sym (ap rings_in c.in-Unmade.is) ∙ c.self.view_is)
    (Takes-unmade c.in-Unmade.shards c.in-Unmade.capacity c.args.worker c.args.shard c.none_waits.result c.none_waits.ensures)
