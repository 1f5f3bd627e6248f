use Rattle.std.proofs.Common.{◌≡◌, Some, ap, slice_get, subst, sym, ◌∙◌}
use Rattle.shard.specs.Calls.{Gets}
use Rattle.arena_core.specs.Kept.{shards_of}
use Rattle.arena_core.specs.Sound.{IsSound}
use Rattle.arena_core.specs.State.{CoreState}
use Rattle.arena_core.proofs.Fields.{shard-lent, shard-past}
use Rattle.arena_core.proofs.Moved.{no_other-unnamed, value-Gets, no_other-away, no_other-unmade}
use Rattle.arena_core.proofs.machine.Core.find_taken_in.Goals as goal

pub returns-in_default-clause-not_here : goal.returns-in_default-clause-not_here
returns-in_default-clause-not_here g c = λ e. no_other-unnamed c.self.inside c.self.invariant c.self.view_is c.args.key.now.span (sym c.shard_of.ensures ∙ c.in_default.is)

pub returns-in_default-get-clause-not_here : goal.returns-in_default-get-clause-not_here
returns-in_default-get-clause-not_here g c = λ e.
    no_other-unmade c.self.inside c.self.invariant c.self.view_is c.args.key.now.span c.in-Some.number (sym c.shard_of.ensures ∙ c.in-Some.is)
    (shard-past c.self.inside c.deref.result.now c.in-Some.number c.deref.ensures.value c.in_default-get.ensures.lookup.3)

there : (g : _) (c : goal.After-get_searched g) → slice_get (shards_of c.self.inside) c.in-Some.number ≡ Some c.in-Some-get.shard.now
there g c = shard-lent c.self.inside c.deref.result.now c.in-Some.number c.in-Some-get.shard c.deref.ensures.value c.in-Some-get.ensures.lookup

pub returns-clause-value : goal.returns-clause-value
returns-clause-value g c = λ here.
    value-Gets c.args.self.now c.args.key.now c.in-Some.number c.in-Some-get.shard.now c.get_searched.result (subst IsSound c.self.view_is c.self.invariant.sound).groups
    (ap (λ (s : CoreState). slice_get s.shards c.in-Some.number) (sym c.self.view_is) ∙ there g c) here c.get_searched.ensures.found c.get_searched.ensures.plain

pub returns-clause-not_here : goal.returns-clause-not_here
returns-clause-not_here g c = λ e.
    no_other-away c.self.inside c.self.invariant c.self.view_is c.args.key.now.span c.in-Some.number c.in-Some-get.shard.now (sym c.shard_of.ensures ∙ c.in-Some.is) (there g c)
    (subst (Gets c.in-Some-get.shard.now c.args.key.now) e c.get_searched.ensures.found)
