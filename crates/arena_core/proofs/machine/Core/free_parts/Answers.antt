use Rattle.std.proofs.Common.{subst}
use Rattle.span.specs.declared.key.Key.{Key}
use Rattle.arena_core.specs.declared.event.Event.TheVariants.{Free}
use Rattle.arena_core.specs.declared.reply.Reply.TheVariants.{Freed}
use Rattle.arena_core.specs.Plain.{PlainStep}
use Rattle.arena_core.specs.State.{shown}
use Rattle.arena_core.specs.Step.{CoreStep}
use Rattle.arena_core.proofs.Lookups.{key_of-parts}
use Rattle.arena_core.proofs.machine.Core.free_parts.Goals as goal

pub returns-clause-exact : goal.returns-clause-exact
returns-clause-exact g c = λ key parts. subst (λ (k : Key). CoreStep c.args.self.now (Free k) (Freed c.free_asked.result) c.free_asked.new.self)
    (key_of-parts c.args.span c.args.slot c.args.generation _ key parts) c.free_asked.ensures.exact

pub returns-clause-plain : goal.returns-clause-plain
returns-clause-plain g c = λ key parts. subst (λ (k : Key). PlainStep c.args.self.now.limits (shown c.args.self.now) (Free k) (Freed c.free_asked.result) (shown c.free_asked.new.self))
    (key_of-parts c.args.span c.args.slot c.args.generation _ key parts) c.free_asked.ensures.plain
