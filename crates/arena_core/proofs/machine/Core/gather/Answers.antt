use Rattle.std.proofs.Common.{◌≡◌, Some, arith, ap, refl, slice_get, subst}
use Rattle.std.proofs.lemmas.Option.{slice_get_within}
use Rattle.arena_core.specs.Kept.{shards_of, state_of}
use Rattle.arena_core.specs.State.{CoreState}
use Rattle.arena_core.proofs.Fields.{IsRead, no_read, shard-read}
use Rattle.arena_core.proofs.FieldsKept.{IsKept-same}
use Rattle.arena_core.proofs.MadeFields.{IsUnused-unmade}
use Rattle.arena_core.proofs.machine.Core.gather.Goals as goal

pub gather_none-requires : goal.gather_none-requires
gather_none-requires g c = IsUnused-unmade (state_of c.self.inside) c.self.inside.shards.items c.args.number refl (no_read c.self.inside c.args.number c.in_default.ensures.variant.1)

pub invariant_of-self-2 : goal.invariant_of-self-2
invariant_of-self-2 g c =
    IsKept-same c.self.inside c.self.invariant c.args.number c.in-Some.shard.now (record { within = c.in-Some.ensures.variant.0 refl; value = c.in-Some.ensures.value })
    c.gather_some.new.shard c.gather_some.ensures.same

pub invariant_of-self-in_default-gather_some : goal.invariant_of-self-in_default-gather_some
invariant_of-self-in_default-gather_some g c =
    IsKept-same c.self.inside c.self.invariant c.args.number c.in-Some.shard.now (record { within = c.in-Some.ensures.variant.0 refl; value = c.in-Some.ensures.value })
    c.gather_some.new.shard c.gather_some.ensures.same

pub returns-in_default-gather_some-clause-exact : goal.returns-in_default-gather_some-clause-exact
returns-in_default-gather_some-clause-exact g c =
    let read : IsRead c.self.inside c.args.number c.in-Some.shard.now = record { within = c.in-Some.ensures.variant.0 refl; value = c.in-Some.ensures.value } in
    let here = slice_get_within (shards_of c.self.inside) c.args.number c.in-Some.shard.now (shard-read c.self.inside c.args.number c.in-Some.shard.now read) in
    omega (arith, here, c.self.invariant.sound.groups.count, ap (λ (s : CoreState). s.limits.shards) c.self.view_is)

pub returns-clause-exact : goal.returns-clause-exact
returns-clause-exact g c =
    let read : IsRead c.self.inside c.args.number c.in-Some.shard.now = record { within = c.in-Some.ensures.variant.0 refl; value = c.in-Some.ensures.value } in
    record {
      shard = c.in-Some.shard.now;
      there = subst (λ (s : CoreState). slice_get s.shards c.args.number ≡ Some c.in-Some.shard.now) c.self.view_is (shard-read c.self.inside c.args.number c.in-Some.shard.now read);
      count_is = c.in-Ok.ensures.count;
    }
