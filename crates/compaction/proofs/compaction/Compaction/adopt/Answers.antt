use Rattle.std.proofs.Common.{refl}
use Rattle.arena_core.specs.declared.event.Event.TheVariants as event
use Rattle.compaction.specs.Compacts.{going}
use Rattle.compaction.proofs.Steps.{Takes-event}
use Rattle.compaction.proofs.compaction.Compaction.adopt.Goals as goal

pub returns-clause-takes : goal.returns-clause-takes
returns-clause-takes c = Takes-event 1 c.advanced_by.result (going c.args.self.now c.args.core.now) (going c.after_adoption.new.self c.step-reply.new.self) (event.Adopt c.shard-shard.result) c.step-reply.result c.requires refl c.advanced_by.ensures c.step-reply.ensures.exact c.after_adoption.ensures
