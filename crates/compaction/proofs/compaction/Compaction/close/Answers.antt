use Rattle.std.proofs.Common.{ap, ◌∙◌, refl}
use Rattle.arena_core.specs.declared.event.Event.TheVariants as event
use Rattle.compaction.specs.Compacts.{going}
use Rattle.compaction.specs.declared.progress.Phase.TheVariants.{Choosing}
use Rattle.compaction.specs.declared.progress.Progress.{Progress}
use Rattle.compaction.proofs.Steps.{Takes-event}
use Rattle.compaction.proofs.compaction.Compaction.close.Goals as goal

pub returns-clause-takes : goal.returns-clause-takes
returns-clause-takes c = rw (← c.self.view_is) (Takes-event 1 c.advanced_by.result (going c.self.inside.progress c.args.core.now) (going (record c.self.inside.progress { phase = Choosing }) c.step-reply.new.self)
    event.Close c.step-reply.result (ap (λ (p : Progress). p.phase) c.self.view_is ∙ c.requires) refl c.advanced_by.ensures c.step-reply.ensures.exact refl)
