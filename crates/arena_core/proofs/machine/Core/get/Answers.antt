use Rattle.std.proofs.Common.{ap, refl, sym, subst, slice_get, ◌∙◌}
use Rattle.arena_core.specs.Moved.{StandsIn}
use Rattle.arena_core.specs.Sound.{IsSound}
use Rattle.arena_core.specs.State.{CoreState}
use Rattle.arena_core.proofs.Fields.{shard-lent, shard-past}
use Rattle.arena_core.proofs.Made.{unmade-standing}
use Rattle.arena_core.proofs.Moved.{value-Gets}
use Rattle.arena_core.proofs.machine.Core.get.Goals as goal

-- the shard is not made

pub get_unmade-requires-clause-home : goal.get_unmade-requires-clause-home
get_unmade-requires-clause-home g c =
    subst (λ (s : CoreState). StandsIn s.shards c.args.key.now.span c.args.key.now.span.shard → ⊥) c.self.view_is
    (unmade-standing c.self.inside.limits c.self.inside.shards.items c.args.key.now.span c.args.key.now.span.shard
    (shard-past c.self.inside c.deref.result.now c.args.key.now.span.shard c.deref.ensures.value c.in_default.ensures.lookup.3))

pub get_unmade-requires-clause-generation : goal.get_unmade-requires-clause-generation
get_unmade-requires-clause-generation g c = c.args.key.now.generation_in_range

pub returns-in_default-clause-value : goal.returns-in_default-clause-value
returns-in_default-clause-value g c = c.some_words.ensures.value ∙ c.get_unmade.ensures.value c.args.key.now refl refl refl

pub returns-in_default-clause-object : goal.returns-in_default-clause-object
returns-in_default-clause-object g c = c.some_words.ensures.object c.get_unmade.ensures.object

-- the shard is asked

pub get_other-requires-clause-here : goal.get_other-requires-clause-here
get_other-requires-clause-here g c =
    ap (λ (s : CoreState). slice_get s.shards c.args.key.now.span.shard) (sym c.self.view_is)
    ∙ shard-lent c.self.inside c.deref.result.now c.args.key.now.span.shard c.in-Some.shard c.deref.ensures.value c.in-Some.ensures.lookup

pub get_other-requires-clause-generation : goal.get_other-requires-clause-generation
get_other-requires-clause-generation g c = c.args.key.now.generation_in_range

pub returns-in-Some-get_first-clause-value : goal.returns-in-Some-get_first-clause-value
returns-in-Some-get_first-clause-value g c =
    c.words_of.ensures.value
    ∙ value-Gets c.args.self.now c.args.key.now c.args.key.now.span.shard c.in-Some.shard.now c.in-Some-get_first.found (subst IsSound c.self.view_is c.self.invariant.sound).groups
    (ap (λ (s : CoreState). slice_get s.shards c.args.key.now.span.shard) (sym c.self.view_is)
    ∙ shard-lent c.self.inside c.deref.result.now c.args.key.now.span.shard c.in-Some.shard c.deref.ensures.value c.in-Some.ensures.lookup)
    c.in-Some-get_first.ensures.here c.in-Some-get_first.ensures.found c.in-Some-get_first.ensures.plain

pub returns-in-None-clause-value : goal.returns-in-None-clause-value
returns-in-None-clause-value g c = c.some_words-in-None.ensures.value ∙ c.get_other.ensures.value c.args.key.now refl refl refl

pub returns-in-None-clause-object : goal.returns-in-None-clause-object
returns-in-None-clause-object g c = c.some_words-in-None.ensures.object c.get_other.ensures.object
