use Rattle.std.proofs.Common.{◌∙◌, ap, arith, sym}
use Rattle.std.specs.FinSet.{contains}
use Rattle.bitmap.proofs.Summaries.{contains-remove_other, contains-remove_same}
use Rattle.shard.specs.Rooms.{rooms_of}
use Rattle.shard.proofs.class_rooms.ClassRooms.move_number.Goals as goal

pub returns-clause-moved : goal.returns-clause-moved
returns-clause-moved c = record {
  this = c.note.ensures.this ∙ c.contains-had.ensures;
  gone = c.note.ensures.same c.args.from (λ e. absurd (omega (arith, e, c.requires.order))) ∙ ap (λ s. contains s c.args.from) c.remove.ensures.this
      ∙ contains-remove_same (rooms_of c.args.self.now c.args.class) c.args.from;
  same = λ n apart other. c.note.ensures.same n other ∙ ap (λ s. contains s n) c.remove.ensures.this
      ∙ contains-remove_other (rooms_of c.args.self.now c.args.class) c.args.from n apart;
}

pub note-requires : goal.note-requires
note-requires c = omega (arith, c.requires.order, c.requires.room, c.remove.ensures.room c.args.class)

pub returns-clause-others : goal.returns-clause-others
returns-clause-others c other differs = c.note.ensures.others other differs ∙ c.remove.ensures.others other differs

pub returns-clause-room : goal.returns-clause-room
returns-clause-room c other = c.note.ensures.room other ∙ c.remove.ensures.room other
