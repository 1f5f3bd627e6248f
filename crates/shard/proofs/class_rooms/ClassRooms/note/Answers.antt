use Rattle.std.proofs.Common.{◌∙◌, ap, sym}
use Rattle.std.specs.FinSet.{contains}
use Rattle.bitmap.proofs.Summaries.{contains-insert_other, contains-insert_same, contains-remove_other, contains-remove_same}
use Rattle.shard.proofs.class_rooms.ClassRooms.note.Goals as goal

pub returns-then-inside-clause-this : goal.returns-then-inside-clause-this
returns-then-inside-clause-this c = ap (λ s. contains s c.args.number) c.insert.ensures.this ∙ contains-insert_same _ c.args.number ∙ sym c.if-inside.true

pub returns-then-inside-clause-same : goal.returns-then-inside-clause-same
returns-then-inside-clause-same c n other = ap (λ s. contains s n) c.insert.ensures.this ∙ contains-insert_other _ c.args.number n other

pub returns-else-inside-clause-this : goal.returns-else-inside-clause-this
returns-else-inside-clause-this c = ap (λ s. contains s c.args.number) c.remove.ensures.this ∙ contains-remove_same _ c.args.number ∙ sym c.if-inside.false

pub returns-else-inside-clause-same : goal.returns-else-inside-clause-same
returns-else-inside-clause-same c n other = ap (λ s. contains s n) c.remove.ensures.this ∙ contains-remove_other _ c.args.number n other
