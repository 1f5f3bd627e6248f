use Rattle.std.proofs.Common.{◌≡◌, ◌-◌, refl, subst, sym}
use Rattle.arena_core.specs.Kept.{state_of}
use Rattle.arena_core.specs.State.{shown}
use Rattle.arena_core.specs.TrimsPart.{TrimsPart}
use Rattle.arena_core.proofs.Fields.{IsRead, no_read, with_shard_at, shard-read, state_of-with_shard_at}
use Rattle.arena_core.proofs.FieldSteps.{at_same}
use Rattle.arena_core.proofs.FieldsKept.{GetsNone-trimmed, IsKept-with_shard_at}
use Rattle.arena_core.proofs.MadeFields.{IsUnused-unmade}
use Rattle.arena_core.proofs.PlanSteps.{IsSound-trimmed, shown-trimmed}
use Rattle.arena_core.specs.Sound.{IsSound}
use Rattle.arena_core.proofs.machine.Core.trim_some.Goals as goal

read_at : (g : _) (c : goal.After-self-2-1 g) → IsRead c.self.inside c.args.number c.in-Some.shard.now
read_at g c = record { within = c.in-Some.ensures.variant.0 refl; value = c.in-Some.ensures.value }

sound_at : (g : _) (c : goal.After-self-2-1 g) → IsSound (state_of (with_shard_at c.self.inside c.args.number c.trim_some.new.self))
sound_at g c =
    let read = read_at g c in
    subst IsSound (sym (state_of-with_shard_at c.self.inside c.args.number c.in-Some.shard.now c.trim_some.new.self read))
    (IsSound-trimmed (state_of c.self.inside) c.args.number c.args.from c.trim_some.result.groups c.in-Some.shard.now c.trim_some.new.self c.self.invariant.sound
    (shard-read c.self.inside c.args.number c.in-Some.shard.now read) c.trim_some.ensures.trims.after c.trim_some.ensures.sound)

pub invariant_of-self-2 : goal.invariant_of-self-2
invariant_of-self-2 g c =
    let read = read_at g c in
    IsKept-with_shard_at c.self.inside c.self.invariant c.args.number c.in-Some.shard.now read c.trim_some.new.self
    (GetsNone-trimmed c.self.inside c.self.invariant c.args.number c.in-Some.shard.now read c.args.from c.trim_some.result.groups c.trim_some.new.self c.trim_some.ensures.trims.after)
    (sound_at g c)

pub returns-clause-exact : goal.returns-clause-exact
returns-clause-exact g c =
    let read = read_at g c in
    at_same (λ old new. TrimsPart c.args.number c.args.from c.args.most old c.trim_some.result new) c.self.view_is (state_of-with_shard_at c.self.inside c.args.number c.in-Some.shard.now c.trim_some.new.self read)
    (record {
      before = c.in-Some.shard.now;
      after = c.trim_some.new.self;
      here = shard-read c.self.inside c.args.number c.in-Some.shard.now read;
      trims = c.trim_some.ensures.trims;
      rest = refl;
    })

pub returns-clause-same : goal.returns-clause-same
returns-clause-same g c =
    let read = read_at g c in
    at_same (λ old new. shown new ≡ shown old) c.self.view_is (state_of-with_shard_at c.self.inside c.args.number c.in-Some.shard.now c.trim_some.new.self read)
    (shown-trimmed (state_of c.self.inside) c.args.number c.args.from c.trim_some.result.groups c.in-Some.shard.now c.trim_some.new.self c.self.invariant.sound
    (shard-read c.self.inside c.args.number c.in-Some.shard.now read) c.trim_some.ensures.trims.after c.trim_some.ensures.sound c.trim_some.ensures.plain)

pub returns-clause-sound : goal.returns-clause-sound
returns-clause-sound g c = sound_at g c

-- the shard is not made

pub trim_no_part-requires : goal.trim_no_part-requires
trim_no_part-requires g c = IsUnused-unmade (state_of c.self.inside) c.self.inside.shards.items c.args.number refl (no_read c.self.inside c.args.number c.in_default.ensures.variant.1)
