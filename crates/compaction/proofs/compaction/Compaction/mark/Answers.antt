use Rattle.std.proofs.Common.{ap, ◌∙◌, refl}
use Rattle.arena_core.specs.declared.event.Event.TheVariants as event
use Rattle.arena_core.specs.declared.reply.Reply.TheVariants as reply
use Rattle.arena_core.specs.declared.reply.Refusal.TheVariants as refusal
use Rattle.compaction.specs.Compacts.{going, noted}
use Rattle.compaction.specs.declared.advanced.Advanced.TheVariants as advanced
use Rattle.compaction.proofs.Steps.{Takes-event}
use Rattle.compaction.proofs.compaction.Compaction.mark.Goals as goal

pub returns-clause-takes : goal.returns-clause-takes
returns-clause-takes c = Takes-event 1 c.advanced_by.result (going c.args.self.now c.args.core.now) (going c.note_marked.new.self c.step-reply.new.self) event.MarkSome c.step-reply.result c.requires refl c.advanced_by.ensures c.step-reply.ensures.exact
    (c.note_marked.ensures ∙ ap (noted event.MarkSome c.step-reply.result) c.make_work-made.ensures.same)

pub returns-in-Err-clause-takes : goal.returns-in-Err-clause-takes
returns-in-Err-clause-takes c = Takes-event 1 (advanced.Refused refusal.OutOfMemory) (going c.args.self.now c.args.core.now) (going c.make_work-made.new.self c.args.core.now) event.MarkSome (reply.Refused refusal.OutOfMemory) c.requires refl refl
    (c.in-Err.ensures.no_plan, refl) c.make_work-made.ensures.same
