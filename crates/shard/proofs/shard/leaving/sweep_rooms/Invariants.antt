use Rattle.std.proofs.Common.{◌≡◌, ◌≤◌, ℕ}
use Rattle.shard.specs.Rooms.{HasRooms, room_of, rooms_of}
use Rattle.shard.proofs.SweptRooms.{IsSwept}
use Rattle.span.specs.declared.class.Class.{Class}
use Rattle.shard.proofs.shard.leaving.sweep_rooms.Given as goal

abbrev pub invariant-loop-index : goal.invariant-loop-index
invariant-loop-index g l = ((slot_limit : ℕ) → ((class : Class) → HasRooms slot_limit class l.fn.groups.items (rooms_of l.initial.rooms class))
    → (class : Class) → IsSwept slot_limit class l.fn.groups.items (rooms_of l.initial.rooms class) (rooms_of l.rooms class) l.index l.next)
    × (l.next ≤ l.index) × ((class : Class) → room_of l.rooms class ≡ room_of l.initial.rooms class)
