use Rattle.std.proofs.Common.{◌≡◌, false, true, subst, sym, ◌∙◌}
use Rattle.shard.specs.declared.shard.Freed.TheVariants.{NotHere}
use Rattle.arena_core.specs.declared.event.Event.TheVariants.{Free}
use Rattle.arena_core.specs.declared.reply.Reply.TheVariants.{Freed}
use Rattle.arena_core.specs.Kept.{state_of}
use Rattle.arena_core.specs.Moved.{StandsIn, StandsInNoOther}
use Rattle.arena_core.specs.State.{CoreState, with_pool}
use Rattle.arena_core.proofs.Moved.{value-no_other}
use Rattle.arena_core.proofs.PlanSteps.{IsSoundStep, IsSoundStep-FreesPooled}
use Rattle.arena_core.proofs.machine.Core.free_moved.Goals as goal
use Rattle.arena_core.proofs.machine.Core.free_moved.Goals.{in-NotHere, in_default}

not_here : (g : _) (c : goal.After-was_done g) → c.free_taken_in-freed.result ≡ NotHere
not_here g c = elim c.match-matches.branch [
  | in-NotHere w ↦ w.in-NotHere.is
  | in_default w ↦ absurd (let both : false ≡ true = sym w.matches-is ∙ c.if-matches.true in cc)
]

-- the core is as it was before any shard was asked
view_is : (g : _) (c : goal.After-was_done g) → state_of c.self.inside ≡ c.args.self.now
view_is g c = c.self.view_is ∙ (c.free_taken_in-freed.ensures.not_here (not_here g c)).1

pooled : (g : _) (c : goal.After-was_done g) → IsSoundStep c.args.self.now (Free c.args.key) (Freed c.was_done.result) (with_pool (state_of c.self.inside) c.free.new.self)
pooled g c =
    let not_home = subst (λ (s : CoreState). StandsIn s.shards c.args.key.span c.args.key.span.shard → ⊥) (sym (view_is g c)) c.requires in
    let no_other = subst (λ (s : CoreState). StandsInNoOther s.shards c.args.key.span) (sym (view_is g c)) (c.free_taken_in-freed.ensures.not_here (not_here g c)).0 in
    subst (λ old. IsSoundStep old (Free c.args.key) (Freed c.was_done.result) (with_pool (state_of c.self.inside) c.free.new.self)) (view_is g c)
    (subst (λ b. IsSoundStep (state_of c.self.inside) (Free c.args.key) (Freed b) (with_pool (state_of c.self.inside) c.free.new.self)) (sym c.was_done.ensures)
    (IsSoundStep-FreesPooled (state_of c.self.inside) c.args.key c.free.new.self c.free.result c.self.invariant.sound (value-no_other (state_of c.self.inside) c.args.key not_home no_other)
    c.free.ensures.step c.free.ensures.found c.free.ensures.plain c.free.ensures.sound))

pub invariant_of-self : goal.invariant_of-self
invariant_of-self g c = record { sound = (pooled g c).kept; moved = c.self.invariant.moved }

pub returns-then-matches-clause-exact : goal.returns-then-matches-clause-exact
returns-then-matches-clause-exact g c = (pooled g c).exact

pub returns-then-matches-clause-plain : goal.returns-then-matches-clause-plain
returns-then-matches-clause-plain g c = (pooled g c).plain

pub returns-then-matches-clause-sound : goal.returns-then-matches-clause-sound
returns-then-matches-clause-sound g c = (pooled g c).kept
