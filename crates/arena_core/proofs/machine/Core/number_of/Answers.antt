use Rattle.std.proofs.Common.{◌≡◌, ◌≢◌, ◌<◌, false, true, arith, refl, subst, sym, ◌∙◌, Some, get_or, ℕ, vec_len}
use Rattle.std.proofs.lemmas.Option.{none-some}
use Rattle.groups.proofs.Lists.{same_some}
use Rattle.arena_core.specs.Kept.{shards_of, state_of, IsKept}
use Rattle.arena_core.specs.Moved.{StandsIn, named}
use Rattle.arena_core.specs.State.{CoreState}
use Rattle.arena_core.proofs.Fields.{shard-read}
use Rattle.arena_core.proofs.Moved.{not-standing, standing}
use Rattle.arena_core.proofs.Noted.{home-made}
use Rattle.arena_core.proofs.machine.Core.number_of.Goals as goal
use Rattle.arena_core.specs.declared.machine.Core.TheInside.{Inside}
use Rattle.groups.specs.Group.{IsElsewhere}
use Rattle.shard.specs.State.{ShardState}
use Rattle.span.specs.declared.id.SpanId.{SpanId}

stands : (g : _) (c : goal.After-self g) → StandsIn (shards_of c.self.inside) c.args.id c.requires.0
stands g c = subst (λ (s : CoreState). StandsIn s.shards c.args.id c.requires.0) (sym c.self.view_is) c.requires.1

pub index-requires : goal.index-requires
index-requires g c = omega (arith, c.self.inside.shards.ok.0, home-made c.self.inside.limits c.self.inside.shards.items (state_of c.self.inside) c.self.invariant.sound.groups refl c.args.id c.requires.0 (stands g c))

pub returns-then-has : goal.returns-then-has
returns-then-has g c =
    let within = home-made c.self.inside.limits c.self.inside.shards.items (state_of c.self.inside) c.self.invariant.sound.groups refl c.args.id c.requires.0
    (subst (λ (s : CoreState). StandsIn s.shards c.args.id c.requires.0) (sym c.self.view_is) c.requires.1) in
    subst (λ (s : CoreState). StandsIn s.shards c.args.id c.args.id.shard) c.self.view_is
    (standing (state_of c.self.inside) c.self.invariant.sound.groups c.args.id c.args.id.shard c.index.result.now
    (shard-read c.self.inside c.args.id.shard c.index.result.now (record { within = omega (arith, within, c.self.inside.shards.ok.0); value = c.index.ensures }))
    (c.if-has.ensures.0 refl))

-- a span that stands in a shard, and not in the one that opened it, is named
is_named : {L : Type 0} (c : Inside L) (kept : IsKept c) (id : SpanId) (number : ℕ) (shard : ShardState) → StandsIn (shards_of c) id number → shard ≡ get_or c.shards.items id.shard shard
    → ((IsElsewhere shard.groups id → ⊥) → false ≡ true) → named c.whereabouts.entries id ≡ Some number
is_named c kept id number shard there read none = kept.moved id number foreign there
  where
    within : id.shard < vec_len c.shards
    within = omega (arith, home-made c.limits c.shards.items (state_of c) kept.sound.groups refl id number there, c.shards.ok.0)

    foreign : number ≢ id.shard
    foreign e =
        let never = none (λ away. not-standing (state_of c) kept.sound.groups id id.shard shard
        (shard-read c id.shard shard (record { within = within; value = read })) away (subst (StandsIn (shards_of c) id) e there)) in
        cc

pub unreachable-requires : goal.unreachable-requires
unreachable-requires g c =
    none-some _ (sym (sym c.shard_of.ensures ∙ c.in_default.is) ∙ is_named c.self.inside c.self.invariant c.args.id c.requires.0 c.index.result.now
    (subst (λ (s : CoreState). StandsIn s.shards c.args.id c.requires.0) (sym c.self.view_is) c.requires.1) c.index.ensures c.if-has.ensures.1)

pub returns : goal.returns
returns g c =
    let there : StandsIn (shards_of c.self.inside) c.args.id c.requires.0 = subst (λ (s : CoreState). StandsIn s.shards c.args.id c.requires.0) (sym c.self.view_is) c.requires.1 in
    let its = is_named c.self.inside c.self.invariant c.args.id c.requires.0 c.index.result.now there c.index.ensures c.if-has.ensures.1 in
    let is : c.requires.0 ≡ c.in-Some.number = same_some (sym its ∙ sym c.shard_of.ensures ∙ c.in-Some.is) in
    subst (λ (s : CoreState). StandsIn s.shards c.args.id c.in-Some.number) c.self.view_is (subst (StandsIn (shards_of c.self.inside) c.args.id) is there)
