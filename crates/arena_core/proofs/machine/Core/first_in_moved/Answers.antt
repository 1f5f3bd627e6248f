use Rattle.std.proofs.Common.{subst, sym, ◌∙◌}
use Rattle.arena_core.specs.Moved.{KnowsMoved}
use Rattle.arena_core.specs.State.{CoreState}
use Rattle.arena_core.proofs.NextLive.{owned-named, owned-unnamed}
use Rattle.arena_core.proofs.machine.Core.first_in_moved.Goals as goal

pub first_in_pool-requires : goal.first_in_pool-requires
first_in_pool-requires g c =
    owned-unnamed c.args.self.now.shards c.self.inside.whereabouts.entries
    (subst (λ (s : CoreState). KnowsMoved s.shards c.self.inside.whereabouts.entries) c.self.view_is c.self.invariant.moved) c.args.id c.args.slot
    c.requires
    (sym c.shard_of.ensures ∙ c.in_default.is)

pub first_in_pool-requires-2 : goal.first_in_pool-requires-2
first_in_pool-requires-2 g c =
    owned-named c.args.self.now.shards c.self.inside.whereabouts.entries
    (subst (λ (s : CoreState). KnowsMoved s.shards c.self.inside.whereabouts.entries) c.self.view_is c.self.invariant.moved) c.args.id c.args.slot
    c.requires
    c.in-Some.number (sym c.shard_of.ensures ∙ c.in-Some.is) c.in_default-first_in_shard.ensures
