use Rattle.std.proofs.Common.{◌∙◌, ap, sym}
use Rattle.std.specs.FinSet.{contains, contains-empty}
use Rattle.std.specs.Ordering.{nat_cmp}
use Rattle.bitmap.specs.Numbers.{NumbersState}
use Rattle.shard.proofs.class_rooms.ClassRooms.contains.Goals as goal

pub returns-in-None : goal.returns-in-None
returns-in-None c = sym (ap (λ (s : NumbersState). contains s.numbers c.args.number) c.in-None.ensures ∙ contains-empty nat_cmp c.args.number)
