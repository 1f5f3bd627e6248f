use Rattle.std.proofs.Common.{◌∙◌, refl, subst, sym}
use Rattle.arena_core.specs.declared.event.Event.TheVariants.{Begin}
use Rattle.arena_core.specs.declared.reply.Refusal.TheVariants.{Running}
use Rattle.arena_core.specs.declared.reply.Reply.TheVariants.{Refused, ShardBegun}
use Rattle.arena_core.specs.Kept.{state_of}
use Rattle.arena_core.proofs.Begun.{IsKept-begin_fields, IsSoundStep-begin_fields, IsSoundStep-begin_refused_fields}
use Rattle.arena_core.proofs.Fields.{no_read, with_shard_at}
use Rattle.arena_core.proofs.PlanSteps.{IsSoundStep}
use Rattle.arena_core.proofs.MadeFields.{IsUnused-unmade}
use Rattle.arena_core.proofs.machine.Core.begin.Goals as goal

refused : (g : _) (c : goal.Then-not-begin g) → IsSoundStep c.args.self.now (Begin c.args.number) (Refused Running) (state_of (with_shard_at c.self.inside c.args.number c.begin.new.self))
refused g c =
    subst (λ old. IsSoundStep old (Begin c.args.number) (Refused Running) (state_of (with_shard_at c.self.inside c.args.number c.begin.new.self))) c.self.view_is
    (IsSoundStep-begin_refused_fields c.self.inside c.self.invariant c.args.number c.in-Some.shard.now c.begin.new.self
    (record { within = c.in-Some.ensures.variant.0 refl; value = c.in-Some.ensures.value }) c.begin.ensures.begun (sym c.begin.ensures.had_ended ∙ c.if-not-begin.true))

begins : (g : _) (c : goal.Else-not-begin g) → IsSoundStep c.args.self.now (Begin c.args.number) ShardBegun (state_of (with_shard_at c.self.inside c.args.number c.begin.new.self))
begins g c =
    subst (λ old. IsSoundStep old (Begin c.args.number) ShardBegun (state_of (with_shard_at c.self.inside c.args.number c.begin.new.self))) c.self.view_is
    (IsSoundStep-begin_fields c.self.inside c.self.invariant c.args.number c.in-Some.shard.now c.begin.new.self
    (record { within = c.in-Some.ensures.variant.0 refl; value = c.in-Some.ensures.value }) c.begin.ensures.begun (sym c.begin.ensures.had_ended ∙ c.if-not-begin.false) c.begin.ensures.sound)

pub invariant_of-self-then-not-begin : goal.invariant_of-self-then-not-begin
invariant_of-self-then-not-begin g c =
    IsKept-begin_fields c.self.inside c.self.invariant c.args.number c.in-Some.shard.now c.begin.new.self
    (record { within = c.in-Some.ensures.variant.0 refl; value = c.in-Some.ensures.value }) c.begin.ensures.begun (refused g c).kept

pub returns-then-not-begin-clause-exact : goal.returns-then-not-begin-clause-exact
returns-then-not-begin-clause-exact g c = (refused g c).exact

pub invariant_of-self-2 : goal.invariant_of-self-2
invariant_of-self-2 g c =
    IsKept-begin_fields c.self.inside c.self.invariant c.args.number c.in-Some.shard.now c.begin.new.self
    (record { within = c.in-Some.ensures.variant.0 refl; value = c.in-Some.ensures.value }) c.begin.ensures.begun (begins g c).kept

pub returns-clause-exact : goal.returns-clause-exact
returns-clause-exact g c = (begins g c).exact

pub returns-clause-same : goal.returns-clause-same
returns-clause-same g c = (begins g c).plain

pub returns-clause-sound : goal.returns-clause-sound
returns-clause-sound g c = (begins g c).kept

-- the shard is not made

pub no_begin-requires : goal.no_begin-requires
no_begin-requires g c = IsUnused-unmade (state_of c.self.inside) c.self.inside.shards.items c.args.number refl (no_read c.self.inside c.args.number c.in_default.ensures.variant.1)
