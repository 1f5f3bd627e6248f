use Rattle.std.proofs.Common.{refl}
use Rattle.arena_core.specs.declared.event.Event.TheVariants.{Trim}
use Rattle.arena_core.specs.declared.reply.Reply.TheVariants.{Trimmed}
use Rattle.arena_core.specs.Kept.{state_of}
use Rattle.arena_core.proofs.Fields.{IsRead, no_read, with_shard_at, shard-read, state_of-with_shard_at}
use Rattle.arena_core.proofs.FieldsKept.{GetsNone-Trims, IsKept-with_shard_at}
use Rattle.arena_core.proofs.PlanSteps.{IsSoundStep, IsSoundStep-Trims}
use Rattle.arena_core.proofs.MadeFields.{IsUnused-unmade}
use Rattle.arena_core.proofs.machine.Core.trim.Goals as goal
use Rattle.arena_core.proofs.FieldSteps.{at_same}

trimmed : (g : _) (c : goal.After-self-2-1 g) → IsSoundStep c.args.self.now (Trim c.args.number) (Trimmed c.trim.result) (state_of (with_shard_at c.self.inside c.args.number c.trim.new.self))
trimmed g c =
    let read : IsRead c.self.inside c.args.number c.in-Some.shard.now = record { within = c.in-Some.ensures.variant.0 refl; value = c.in-Some.ensures.value } in
    at_same (λ old new. IsSoundStep old (Trim c.args.number) (Trimmed c.trim.result) new) c.self.view_is (state_of-with_shard_at c.self.inside c.args.number c.in-Some.shard.now c.trim.new.self read)
    (IsSoundStep-Trims (state_of c.self.inside) c.args.number c.trim.result c.in-Some.shard.now c.trim.new.self c.self.invariant.sound
    (shard-read c.self.inside c.args.number c.in-Some.shard.now read) c.trim.ensures.trims c.trim.ensures.plain c.trim.ensures.sound)

pub invariant_of-self-2 : goal.invariant_of-self-2
invariant_of-self-2 g c =
    let read : IsRead c.self.inside c.args.number c.in-Some.shard.now = record { within = c.in-Some.ensures.variant.0 refl; value = c.in-Some.ensures.value } in
    IsKept-with_shard_at c.self.inside c.self.invariant c.args.number c.in-Some.shard.now read c.trim.new.self
    (GetsNone-Trims c.self.inside c.self.invariant c.args.number c.in-Some.shard.now read c.trim.result c.trim.new.self c.trim.ensures.trims)
    (trimmed g c).kept

pub returns-clause-exact : goal.returns-clause-exact
returns-clause-exact g c = (trimmed g c).exact

pub returns-clause-same : goal.returns-clause-same
returns-clause-same g c = (trimmed g c).plain

pub returns-clause-sound : goal.returns-clause-sound
returns-clause-sound g c = (trimmed g c).kept

-- the shard is not made

pub trim_none-requires : goal.trim_none-requires
trim_none-requires g c = IsUnused-unmade (state_of c.self.inside) c.self.inside.shards.items c.args.number refl (no_read c.self.inside c.args.number c.in_default.ensures.variant.1)
