-- What a shard keeps beside its groups, where one of them is replaced, or none.
use Rattle.std.proofs.Common.{◌≡◌, ◌+◌, ◌<◌, ◌≤◌, ℕ, List, length, length-set, Some, set, slice_get, ◌∙◌, ap, arith, rules, sym}
use Rattle.std.specs.Prelude.{map as map_list, vec_len}
use Rattle.std.specs.Global.{Vec}
use Rattle.bitmap.specs.Numbers.{NumbersState}
use Rattle.span.specs.declared.class.Class.{Class}
use Rattle.groups.specs.Sound.{AreSoundGroups}
use Rattle.groups.proofs.KnownGuests.{KnowsGuests-replaced}
use Rattle.groups.proofs.ReplacedGroups.{AreAlike, head-alike}
use Rattle.shard.specs.Group.{GroupState}
use Rattle.shard.specs.Guests.{GuestsState, KeepsGuests, KeepsRoom}
use Rattle.shard.specs.HeadWindow.{HeadWindow, end_of, note_in}
use Rattle.shard.specs.Kept.{IsKept, state_of}
use Rattle.shard.specs.Least.{KnowsLeast}
use Rattle.shard.specs.Row.{RowState}
use Rattle.shard.specs.Rooms.{HasRooms, room_of, rooms_of}
use Rattle.shard.specs.Sound.{IsSound}
use Rattle.shard.specs.declared.shard.Shard.TheInside.{Inside}
use Rattle.shard.proofs.AlikeGroups.{HasGuestRoom-alike, IsSound-alike, alike, bare}
use Rattle.shard.proofs.ClassesHere.{HaveRoom-from, HaveRoom-same, HaveRoom-set}
use Rattle.shard.proofs.GuestRoom.{HasGuestRoom-replaced}
use Rattle.shard.proofs.KnownGuests.{KnowsGuests-alike}
use Rattle.shard.proofs.KnownHeads.{KnowsHeads-alike, KnowsHeads-more, KnowsHeads-set}
use Rattle.shard.proofs.NotedGuests.{KnowsNoHeads-alike, KnowsNoHeads-more, KnowsNoHeads-set}

module _ {L : Type 0} (s : Inside L) (kept : IsKept s) (groups : RowState) (rooms : List NumbersState) where
  abbrev after : Inside L
  after = record s { groups = groups; rooms = rooms }

  -- the groups are as they were
  pub IsKept-same : groups.items ≡ s.groups.items → s.groups.room ≤ groups.room
      → ((class : Class) → HasRooms s.slot_limit class s.groups.items (rooms_of rooms class)) → ((class : Class) → room_of s.rooms class ≤ room_of rooms class)
      → IsKept after
  IsKept-same same room has more = record {
    number_fits = kept.number_fits;
    pages_fit = kept.pages_fit;
    gens_fit = kept.gens_fit;
    sound = rw same kept.sound;
    rooms = λ class. rw same (has class);
    room_for_groups = omega (arith, kept.room_for_groups, room, ap length same);
    room_for_rooms = HaveRoom-same s.groups.items s.rooms (length s.groups.items + s.group_room) kept.room_for_rooms groups.items same rooms _
        (omega (arith, ap length same)) more;
    room_for_class = λ some class. omega (arith, kept.room_for_class some class, more class, ap length same);
    room_for_guests = rw same kept.room_for_guests;
    guests_known = rw same kept.guests_known;
    room_for_entries = kept.room_for_entries;
    heads_known = rw same kept.heads_known;
    room_for_heads = kept.room_for_heads;
    others_known = rw same kept.others_known;
    room_for_notes = kept.room_for_notes;
    least_known = rw same kept.least_known;
    room_for_bytes = omega (arith, kept.room_for_bytes, ap length same);
  }

  -- one is replaced by a group of its class whose spans have the same ids
  pub IsKept-replaced : (least : Vec ℕ) → vec_len s.least ≤ vec_len least → (index : ℕ) (group now : GroupState) → slice_get s.groups.items index ≡ Some group → AreAlike group now → now.head.class ≡ group.head.class
      → groups.items ≡ set s.groups.items index now → s.groups.room ≡ groups.room
      → IsSound (record (state_of s) { groups = set s.groups.items index now })
      → ((class : Class) → HasRooms s.slot_limit class (set s.groups.items index now) (rooms_of rooms class))
      → ((class : Class) → room_of s.rooms class ≤ room_of rooms class)
      → KnowsLeast (set s.groups.items index now) least.items → IsKept (record after { least = least })
  IsKept-replaced least bytes index group now here ids class_is same room sound has more known = record {
    number_fits = kept.number_fits;
    pages_fit = kept.pages_fit;
    gens_fit = kept.gens_fit;
    sound = rw same sound;
    rooms = λ class. rw same (has class);
    room_for_groups = omega (arith, kept.room_for_groups, room, ap length same ∙ length-set s.groups.items index now);
    room_for_rooms = rw same
        (HaveRoom-set s.groups.items s.rooms (length s.groups.items + s.group_room) kept.room_for_rooms index group now here class_is rooms _
        (omega (arith, length-set s.groups.items index now)) more);
    room_for_class = λ some class. omega (arith, kept.room_for_class some class, more class, ap length same ∙ length-set s.groups.items index now);
    room_for_guests = rw same (HasGuestRoom-replaced s.groups.items s.guests.onto s.guests.span_room s.guests.list_room kept.room_for_guests index group now here ids);
    guests_known = rw same (KnowsGuests-replaced s.groups.items s.guests.directory.entries kept.guests_known index group now here ids);
    room_for_entries = kept.room_for_entries;
    heads_known = rw same (KnowsHeads-set s.number s.groups.items s.heads kept.heads_known index group now here (head-alike group now ids));
    room_for_heads = kept.room_for_heads;
    others_known = rw same (KnowsNoHeads-set s.number s.groups.items s.guests.directory.entries s.heads kept.others_known index group now here (head-alike group now ids));
    room_for_notes = kept.room_for_notes;
    least_known = rw same known;
    room_for_bytes = omega (arith, kept.room_for_bytes, bytes, ap length same ∙ length-set s.groups.items index now);
  }

  -- only flags and pages change
  pub IsKept-alike : (least : Vec ℕ) → vec_len s.least ≤ vec_len least → map_list bare groups.items ≡ map_list bare s.groups.items → s.groups.room ≤ groups.room → AreSoundGroups groups.items
      → ((class : Class) → HasRooms s.slot_limit class groups.items (rooms_of rooms class)) → ((class : Class) → room_of s.rooms class ≤ room_of rooms class)
      → KnowsLeast groups.items least.items → IsKept (record after { least = least })
  IsKept-alike least bytes same capacity sound has more known =
      let is = alike s.groups.items groups.items same in
      let many = is.many in
      record {
        number_fits = kept.number_fits;
        pages_fit = kept.pages_fit;
        gens_fit = kept.gens_fit;
        sound = IsSound-alike (state_of s) groups.items same sound kept.sound;
        rooms = has;
        room_for_groups = omega (arith, kept.room_for_groups, capacity, many);
        room_for_rooms = HaveRoom-from s.groups.items s.rooms (length s.groups.items + s.group_room) kept.room_for_rooms groups.items rooms _ (omega (arith, many)) more (λ index group there.
            let before = is.stood index group there in
            (index, before.0, before.1, ap (λ (g : GroupState). g.head.class) (sym before.2)));
        room_for_class = λ some class. omega (arith, kept.room_for_class some class, more class, many);
        room_for_guests = HasGuestRoom-alike (state_of s) groups.items same s.guests.onto s.guests.span_room s.guests.list_room kept.room_for_guests;
        guests_known = KnowsGuests-alike s.groups.items s.guests.directory.entries kept.guests_known groups.items same;
        room_for_entries = kept.room_for_entries;
        heads_known = KnowsHeads-alike s.number s.groups.items groups.items s.heads same kept.heads_known;
        room_for_heads = kept.room_for_heads;
        others_known = KnowsNoHeads-alike s.number s.groups.items s.guests.directory.entries s.heads kept.others_known groups.items same;
        room_for_notes = kept.room_for_notes;
        least_known = known;
        room_for_bytes = omega (arith, kept.room_for_bytes, bytes, many);
      }

-- the bytes of the groups are others, and no fewer
pub IsKept-bytes : {L : Type 0} (s : Inside L) → IsKept s → (least : Vec ℕ) → vec_len s.least ≤ vec_len least → KnowsLeast s.groups.items least.items → IsKept (record s { least = least })
IsKept-bytes s kept least bytes known = search (rules)

-- there are more notes
pub IsKept-more_heads : {L : Type 0} (s : Inside L) → IsKept s → (heads : HeadWindow) → s.heads.base ≤ heads.base
    → ((serial : ℕ) → heads.base ≤ serial → note_in heads serial ≡ note_in s.heads serial) → end_of s.heads ≤ end_of heads → IsKept (record s { heads = heads })
IsKept-more_heads s kept heads base same more = record {
  number_fits = kept.number_fits;
  pages_fit = kept.pages_fit;
  gens_fit = kept.gens_fit;
  sound = kept.sound;
  rooms = kept.rooms;
  room_for_groups = kept.room_for_groups;
  room_for_rooms = kept.room_for_rooms;
  room_for_class = kept.room_for_class;
  room_for_guests = kept.room_for_guests;
  guests_known = kept.guests_known;
  room_for_entries = kept.room_for_entries;
  heads_known = KnowsHeads-more s.number s.groups.items s.heads kept.heads_known heads base same more;
  room_for_heads = λ some. let enough = kept.room_for_heads some in omega (arith, enough, more);
  others_known = KnowsNoHeads-more s.number s.groups.items s.guests.directory.entries s.heads kept.others_known heads base same;
  room_for_notes = λ head named. let enough = kept.room_for_notes head named in omega (arith, enough, more);
  least_known = kept.least_known;
  room_for_bytes = kept.room_for_bytes;
}

-- of the same guests no less is known, and the room for more is as it was
pub IsKept-guests : {L : Type 0} (s : Inside L) → IsKept s → (guests : GuestsState) → KeepsGuests s.guests guests → KeepsRoom s.guests guests → IsKept (record s { guests = guests })
IsKept-guests s kept guests keeps room = record {
  number_fits = kept.number_fits;
  pages_fit = kept.pages_fit;
  gens_fit = kept.gens_fit;
  sound = rw (room.onto, room.span_room) kept.sound;
  rooms = kept.rooms;
  room_for_groups = kept.room_for_groups;
  room_for_rooms = kept.room_for_rooms;
  room_for_class = kept.room_for_class;
  room_for_guests = rw (room.onto, room.span_room, room.list_room) kept.room_for_guests;
  guests_known = rw keeps.entries kept.guests_known;
  room_for_entries = omega (arith, kept.room_for_entries, room.span_room, keeps.room);
  heads_known = kept.heads_known;
  room_for_heads = kept.room_for_heads;
  others_known = rw keeps.entries kept.others_known;
  room_for_notes = rw room.onto kept.room_for_notes;
  least_known = kept.least_known;
  room_for_bytes = kept.room_for_bytes;
}
