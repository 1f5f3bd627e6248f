use Rattle.std.proofs.Common.{ap, ◌∙◌, refl}
use Rattle.arena_core.specs.declared.event.Event.TheVariants as event
use Rattle.arena_core.specs.declared.reply.Reply.TheVariants as reply
use Rattle.compaction.specs.Compacts.{going, noted}
use Rattle.compaction.specs.declared.advanced.Advanced.TheVariants.{Went}
use Rattle.compaction.specs.declared.progress.Progress.{Progress}
use Rattle.compaction.proofs.Steps.{Takes-event, went-trim}
use Rattle.compaction.proofs.compaction.Compaction.trim.Goals as goal

pub returns-in-Ok-clause-takes : goal.returns-in-Ok-clause-takes
returns-in-Ok-clause-takes c = rw (← c.self.view_is) (Takes-event 1 Went (going c.self.inside.progress c.args.core.now)
    (going (noted (event.Trim c.self.inside.progress.trimmed) (reply.Trimmed c.in-Ok.field-0) c.self.inside.progress) c.trim.new.self)
    (event.Trim c.self.inside.progress.trimmed) (reply.Trimmed c.in-Ok.field-0) (ap (λ (p : Progress). p.phase) c.self.view_is ∙ c.requires, refl) refl refl c.in-Ok.ensures.exact refl)

pub returns-in-Err-clause-takes : goal.returns-in-Err-clause-takes
returns-in-Err-clause-takes c = rw (← c.self.view_is) (Takes-event 1 Went (going c.self.inside.progress c.args.core.now)
    (going (noted (event.Trim c.self.inside.progress.trimmed) (reply.Refused c.in-Err.field-0) c.self.inside.progress) c.trim.new.self)
    (event.Trim c.self.inside.progress.trimmed) (reply.Refused c.in-Err.field-0) (ap (λ (p : Progress). p.phase) c.self.view_is ∙ c.requires, refl) refl
    (went-trim c.args.core.now c.trim.new.self c.self.inside.progress.trimmed c.in-Err.field-0 c.in-Err.ensures.exact) c.in-Err.ensures.exact refl)
