use Rattle.std.proofs.Common.{◌∙◌}
use Rattle.shard.specs.Rooms.{rooms_of}
use Rattle.shard.proofs.RemovedRooms.{removed-if}
use Rattle.shard.proofs.class_rooms.ClassRooms.remove.Goals as goal

pub returns-clause-this : goal.returns-clause-this
returns-clause-this c =
    c.remove_if.ensures.this ∙ removed-if (rooms_of c.args.self.now c.args.class) c.args.number c.contains-held.result c.contains-held.ensures
