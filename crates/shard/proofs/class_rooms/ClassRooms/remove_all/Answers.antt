use Rattle.std.proofs.Common.{◌∙◌, arith, false}
use Rattle.shard.specs.Rooms.{rooms_of}
use Rattle.shard.proofs.GroupNumbers.{AgreeApart-four, HasAll-four, IsChanged-remove}
use Rattle.shard.proofs.class_rooms.ClassRooms.remove_all.Goals as goal

pub returns-clause-this : goal.returns-clause-this
returns-clause-this c = HasAll-four false c.args.index (rooms_of c.args.self.now c.args.class) (rooms_of c.remove.new.self c.args.class) (rooms_of c.remove-2.new.self c.args.class) (rooms_of c.remove-3.new.self c.args.class) (rooms_of c.remove-4.new.self c.args.class)
    (IsChanged-remove _ _ _ c.remove.ensures.this) (IsChanged-remove _ _ _ c.remove-2.ensures.this) (IsChanged-remove _ _ _ c.remove-3.ensures.this) (IsChanged-remove _ _ _ c.remove-4.ensures.this)

pub returns-clause-same : goal.returns-clause-same
returns-clause-same c = AgreeApart-four false c.args.index (rooms_of c.args.self.now c.args.class) (rooms_of c.remove.new.self c.args.class) (rooms_of c.remove-2.new.self c.args.class) (rooms_of c.remove-3.new.self c.args.class) (rooms_of c.remove-4.new.self c.args.class)
    (IsChanged-remove _ _ _ c.remove.ensures.this) (IsChanged-remove _ _ _ c.remove-2.ensures.this) (IsChanged-remove _ _ _ c.remove-3.ensures.this) (IsChanged-remove _ _ _ c.remove-4.ensures.this)

pub returns-clause-others : goal.returns-clause-others
returns-clause-others c other differs = c.remove-4.ensures.others other differs ∙ c.remove-3.ensures.others other differs ∙ c.remove-2.ensures.others other differs ∙ c.remove.ensures.others other differs

pub returns-clause-room : goal.returns-clause-room
returns-clause-room c other = c.remove-4.ensures.room other ∙ c.remove-3.ensures.room other ∙ c.remove-2.ensures.room other ∙ c.remove.ensures.room other

pub remove-requires : goal.remove-requires
remove-requires c = omega (arith, c.requires.room)

pub remove-requires-2 : goal.remove-requires-2
remove-requires-2 c = omega (arith, c.requires.room, c.remove.ensures.room c.args.class)

pub remove-requires-3 : goal.remove-requires-3
remove-requires-3 c = omega (arith, c.requires.room, c.remove.ensures.room c.args.class, c.remove-2.ensures.room c.args.class)

pub remove-requires-4 : goal.remove-requires-4
remove-requires-4 c = omega (arith, c.requires.room, c.remove.ensures.room c.args.class, c.remove-2.ensures.room c.args.class, c.remove-3.ensures.room c.args.class)
