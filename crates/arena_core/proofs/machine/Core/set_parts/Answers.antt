use Rattle.std.proofs.Common.{subst}
use Rattle.span.specs.declared.key.Key.{Key}
use Rattle.arena_core.specs.declared.event.Event.TheVariants.{Set}
use Rattle.arena_core.specs.declared.reply.Reply.TheVariants.{Replaced}
use Rattle.arena_core.specs.Calls.{CoreCall, ShownCall}
use Rattle.arena_core.proofs.Lookups.{key_of-parts}
use Rattle.arena_core.proofs.machine.Core.set_parts.Goals as goal

pub returns-clause-exact : goal.returns-clause-exact
returns-clause-exact g c = λ key parts. subst (λ (k : Key). CoreCall c.args.self.now (Set k c.args.words.now) Replaced c.set_asked.result c.set_asked.new.self)
    (key_of-parts c.args.span c.args.slot c.args.generation _ key parts) c.set_asked.ensures.exact

pub returns-clause-plain : goal.returns-clause-plain
returns-clause-plain g c = λ key parts. subst (λ (k : Key). ShownCall c.args.self.now (Set k c.args.words.now) Replaced c.set_asked.result c.set_asked.new.self)
    (key_of-parts c.args.span c.args.slot c.args.generation _ key parts) c.set_asked.ensures.plain
