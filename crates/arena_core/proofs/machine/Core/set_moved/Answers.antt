use Rattle.std.proofs.Common.{◌≡◌, false, true, subst, sym, ◌∙◌}
use Rattle.std.proofs.lemmas.Result.{err_from_is_err_and}
use Rattle.shard.specs.declared.shard.replacing.Replaced.TheVariants.{NotHere}
use Rattle.arena_core.specs.declared.event.Event.TheVariants.{Set}
use Rattle.arena_core.specs.declared.reply.Refusal.TheVariants.{OutOfMemory}
use Rattle.arena_core.specs.declared.reply.Reply.TheVariants.{Refused, Replaced}
use Rattle.arena_core.specs.Kept.{state_of}
use Rattle.arena_core.specs.State.{with_pool}
use Rattle.arena_core.proofs.FieldSteps.{IsStep-set_pooled, IsStep-set_refused_pooled}
use Rattle.arena_core.proofs.PlanSteps.{IsSoundStep}
use Rattle.arena_core.proofs.machine.Core.set_moved.Goals as goal
use Rattle.arena_core.proofs.machine.Core.set_moved.Goals.{In_err-pooled, Then-matches, in-NotHere, in_default}

-- no shard has the span, and the core is as it was before any was asked

not_here : (g : _) (c : Then-matches g) → c.in_ok-replaced.replaced ≡ NotHere
not_here g c = elim c.match-matches.branch [
  | in-NotHere w ↦ w.in-NotHere.is
  | in_default w ↦ absurd (let both : false ≡ true = sym w.matches-is ∙ c.if-matches.true in cc)
]

pooled : (g : _) (c : goal.After-was_set g) → c.in_ok-replaced.replaced ≡ NotHere → IsSoundStep c.args.self.now (Set c.args.key.now c.args.words.now) (Replaced c.was_set.result) (with_pool (state_of c.self.inside) c.set.new.self)
pooled g c absent =
    let nowhere = c.in_ok-replaced.ensures.not_here absent in
    subst (λ b. IsSoundStep c.args.self.now (Set c.args.key.now c.args.words.now) (Replaced b) (with_pool (state_of c.self.inside) c.set.new.self)) (sym c.was_set.ensures)
    (IsStep-set_pooled c.self.inside c.args.self.now c.args.key.now c.args.words.now c.set.new.self (c.self.view_is ∙ nowhere.1) c.self.invariant.sound c.requires nowhere.0
    c.in_ok-pooled.pooled c.in_ok-pooled.ensures.step c.in_ok-pooled.ensures.found c.in_ok-pooled.ensures.plain c.set.ensures.sound)

pub invariant_of-self-then-matches : goal.invariant_of-self-then-matches
invariant_of-self-then-matches g c = record { sound = (pooled g c (not_here g (goal.at.invariant_of-self-then-matches g c).Then-matches)).kept; moved = c.self.invariant.moved }

pub returns-then-matches-clause-exact : goal.returns-then-matches-clause-exact
returns-then-matches-clause-exact g c = (pooled g c (not_here g (goal.at.returns-then-matches-clause-exact g c).Then-matches)).exact

pub returns-then-matches-clause-plain : goal.returns-then-matches-clause-plain
returns-then-matches-clause-plain g c = (pooled g c (not_here g (goal.at.returns-then-matches-clause-plain g c).Then-matches)).plain

pub returns-then-matches-clause-sound : goal.returns-then-matches-clause-sound
returns-then-matches-clause-sound g c = (pooled g c (not_here g (goal.at.returns-then-matches-clause-sound g c).Then-matches)).kept

-- the pool refuses

refused : (g : _) (c : In_err-pooled g) → c.in_ok-replaced.replaced ≡ NotHere → IsSoundStep c.args.self.now (Set c.args.key.now c.args.words.now) (Refused OutOfMemory) (with_pool (state_of c.self.inside) c.set.new.self)
refused g c absent =
    let nowhere = c.in_ok-replaced.ensures.not_here absent in
    IsStep-set_refused_pooled c.self.inside c.args.self.now c.args.key.now c.args.words.now c.set.new.self (c.self.view_is ∙ nowhere.1) c.self.invariant.sound c.requires nowhere.0
    c.in_err-pooled.ensures.refused c.in_err-pooled.ensures.err

pub returns-in_err-pooled-clause-exact : goal.returns-in_err-pooled-clause-exact
returns-in_err-pooled-clause-exact g c =
    let told = err_from_is_err_and c.from_residual-in_err-pooled.result c.from_residual-in_err-pooled.ensures.1 in
    rw (told.1, told.2) (refused g (goal.at.returns-in_err-pooled-clause-exact g c).In_err-pooled (not_here g (goal.at.returns-in_err-pooled-clause-exact g c).Then-matches)).exact

pub returns-in_err-pooled-clause-plain : goal.returns-in_err-pooled-clause-plain
returns-in_err-pooled-clause-plain g c =
    let told = err_from_is_err_and c.from_residual-in_err-pooled.result c.from_residual-in_err-pooled.ensures.1 in
    rw (told.1, told.2) (refused g (goal.at.returns-in_err-pooled-clause-plain g c).In_err-pooled (not_here g (goal.at.returns-in_err-pooled-clause-plain g c).Then-matches)).plain
