use Rattle.std.proofs.Common.{arith, refl}
use Rattle.arena_core.specs.declared.event.Event.TheVariants as event
use Rattle.compaction.specs.Compacts.{going}
use Rattle.compaction.proofs.Steps.{Takes-event}
use Rattle.compaction.proofs.compaction.Compaction.retire.Goals as goal

pub returns-clause-takes : goal.returns-clause-takes
returns-clause-takes c = Takes-event c.max-most.result c.advanced_by.result (going c.args.self.now c.args.core.now) (going c.note_retired.new.self c.step-reply.new.self) (event.Retire c.shard-shard.result c.max-most.result) c.step-reply.result (c.requires.choosing, omega (arith, c.max-most.ensures)) refl c.advanced_by.ensures c.step-reply.ensures.exact c.note_retired.ensures
