use Rattle.std.proofs.Common.{ap, slice_get, subst, sym, ◌∙◌}
use Rattle.arena_core.specs.NextLive.{HasNoneIn}
use Rattle.arena_core.specs.Sound.{IsSound}
use Rattle.arena_core.specs.State.{CoreState}
use Rattle.arena_core.proofs.Fields.{shard-lent, shard-past}
use Rattle.arena_core.proofs.MadeWalked.{HasNoneIn-unmade}
use Rattle.arena_core.proofs.NextLive.{first-shard}
use Rattle.arena_core.proofs.machine.Core.first_in_shard.Goals as goal

pub returns : goal.returns
returns g c =
    first-shard c.args.self.now (subst IsSound c.self.view_is c.self.invariant.sound).groups c.args.number c.in-Some.shard.now c.args.id c.args.slot
    c.first_from.result
    (ap (λ (s : CoreState). slice_get s.shards c.args.number) (sym c.self.view_is)
    ∙ shard-lent c.self.inside c.deref.result.now c.args.number c.in-Some.shard c.deref.ensures.value c.in-Some.ensures.lookup)
    c.first_from.ensures.first

pub returns-in_default : goal.returns-in_default
returns-in_default g c =
    subst (λ (s : CoreState). HasNoneIn s.shards c.args.number c.args.id c.args.slot) c.self.view_is
    (HasNoneIn-unmade c.self.inside.limits c.self.inside.shards.items c.args.number c.args.id c.args.slot
    (shard-past c.self.inside c.deref.result.now c.args.number c.deref.ensures.value c.in_default.ensures.lookup.3))
