use Rattle.std.proofs.Common.{◌∙◌, arith, true}
use Rattle.shard.specs.Rooms.{rooms_of}
use Rattle.shard.proofs.GroupNumbers.{AgreeApart-four, HasAll-four, IsChanged-insert}
use Rattle.shard.proofs.class_rooms.ClassRooms.insert_all.Goals as goal

pub returns-clause-this : goal.returns-clause-this
returns-clause-this c = HasAll-four true c.args.index (rooms_of c.args.self.now c.args.class) (rooms_of c.insert.new.self c.args.class) (rooms_of c.insert-2.new.self c.args.class) (rooms_of c.insert-3.new.self c.args.class) (rooms_of c.insert-4.new.self c.args.class)
    (IsChanged-insert _ _ _ c.insert.ensures.this) (IsChanged-insert _ _ _ c.insert-2.ensures.this) (IsChanged-insert _ _ _ c.insert-3.ensures.this) (IsChanged-insert _ _ _ c.insert-4.ensures.this)

pub returns-clause-same : goal.returns-clause-same
returns-clause-same c = AgreeApart-four true c.args.index (rooms_of c.args.self.now c.args.class) (rooms_of c.insert.new.self c.args.class) (rooms_of c.insert-2.new.self c.args.class) (rooms_of c.insert-3.new.self c.args.class) (rooms_of c.insert-4.new.self c.args.class)
    (IsChanged-insert _ _ _ c.insert.ensures.this) (IsChanged-insert _ _ _ c.insert-2.ensures.this) (IsChanged-insert _ _ _ c.insert-3.ensures.this) (IsChanged-insert _ _ _ c.insert-4.ensures.this)

pub returns-clause-others : goal.returns-clause-others
returns-clause-others c other differs = c.insert-4.ensures.others other differs ∙ c.insert-3.ensures.others other differs ∙ c.insert-2.ensures.others other differs ∙ c.insert.ensures.others other differs

pub returns-clause-room : goal.returns-clause-room
returns-clause-room c other = c.insert-4.ensures.room other ∙ c.insert-3.ensures.room other ∙ c.insert-2.ensures.room other ∙ c.insert.ensures.room other

pub insert-requires : goal.insert-requires
insert-requires c = omega (arith, c.requires.room)

pub insert-requires-2 : goal.insert-requires-2
insert-requires-2 c = omega (arith, c.requires.room, c.insert.ensures.room c.args.class)

pub insert-requires-3 : goal.insert-requires-3
insert-requires-3 c = omega (arith, c.requires.room, c.insert.ensures.room c.args.class, c.insert-2.ensures.room c.args.class)

pub insert-requires-4 : goal.insert-requires-4
insert-requires-4 c = omega (arith, c.requires.room, c.insert.ensures.room c.args.class, c.insert-2.ensures.room c.args.class, c.insert-3.ensures.room c.args.class)
