use Rattle.shard.proofs.NotedGuests.{note_in-struck}
use Rattle.shard.proofs.head_indexes.HeadIndexes.note_away.Goals as goal

pub returns-clause-this : goal.returns-clause-this
returns-clause-this c own = note_in-struck c.args.self.now c.write.new.self c.args.id.serial own.1 (c.write.ensures.this own) c.write.ensures.past
