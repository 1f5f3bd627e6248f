use Rattle.std.proofs.Common.{◌∷◌, List, arith, subst, suc, sym}
use Rattle.bitmap.specs.Numbers.{NumbersState}
use Rattle.shard.specs.Rooms.{HasRoomAt, set_at}
use Rattle.span.specs.Classes.{number_of}
use Rattle.shard.proofs.Classes.{HasRoomAt-each}
use Rattle.span.specs.declared.class.Class.{Class}
use Rattle.shard.proofs.class_rooms.ClassRooms.shift_up.Goals as goal

pub shift_up-requires-clause-room : goal.shift_up-requires-clause-room
shift_up-requires-clause-room c =
    HasRoomAt-each c.args.index (c.self.inside.narrow ∷ c.self.inside.wider.items) (omega (arith, c.self.invariant))
    (subst (λ (sets : List NumbersState). (class : Class) → HasRoomAt c.args.index (set_at sets (number_of class))) (sym c.self.view_is) c.requires.room) 0

pub shift_all_up-requires-clause-room : goal.shift_all_up-requires-clause-room
shift_all_up-requires-clause-room c n =
    HasRoomAt-each c.args.index (c.self.inside.narrow ∷ c.self.inside.wider.items) (omega (arith, c.self.invariant))
    (subst (λ (sets : List NumbersState). (class : Class) → HasRoomAt c.args.index (set_at sets (number_of class))) (sym c.self.view_is) c.requires.room) (suc n)
