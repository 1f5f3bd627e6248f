use Rattle.std.proofs.Common.{◌≡◌, ◌≤◌, [], ap, arith, length, refl, subst, sym}
use Rattle.std.specs.Prelude.{vec_capacity}
use Rattle.shard.specs.Kept.{state_of}
use Rattle.shard.specs.HeadWindow.{end_of}
use Rattle.shard.specs.Heads.{AreReady, KnowsNoHeads}
use Rattle.shard.proofs.Forgotten.{no_head-guest}
use Rattle.shard.proofs.NotedGuests.{no_entry-head}
use Rattle.shard.proofs.ClassesHere.{HaveRoom-same, HaveRoom-swept}
use Rattle.shard.proofs.KnownHeads.{AreReady-swept}
use Rattle.shard.proofs.Left.{HasGuestRoom-swept, IsSound-swept, KnowsGuests-swept, length-stayed}
use Rattle.shard.proofs.shard.Shard.sweep.Goals as goal

pub sweep_rooms-requires-clause-few : goal.sweep_rooms-requires-clause-few
sweep_rooms-requires-clause-few g c = omega (arith, c.self.invariant.sound.limit, c.self.invariant.pages_fit)

pub sweep_rooms-requires-clause-room : goal.sweep_rooms-requires-clause-room
sweep_rooms-requires-clause-room g c =
    HaveRoom-same c.self.inside.groups.items c.self.inside.rooms _ c.self.invariant.room_for_rooms _ refl c.self.inside.rooms _
    (omega arith) (λ class. omega arith)

noted_end : (g : _) (c : goal.After-clear_bytes g) → end_of c.note_from.new.self ≡ end_of c.self.inside.heads
noted_end g c = omega (arith, c.note_from.ensures.base, c.note_from.ensures.len, c.strike_heads.ensures.end)

-- no head is noted before those are that have not left
away : (g : _) (c : goal.After-clear_bytes g) → KnowsNoHeads c.self.inside.number [] c.self.inside.guests.directory.entries c.strike_heads.new.self
away g c =
    c.strike_heads.ensures.known c.self.inside.guests.directory.entries
    (no_entry-head c.self.inside.groups.items c.self.inside.guests.directory.entries c.self.invariant.guests_known (no_head-guest c.self.inside.groups.items c.self.invariant.sound.once))
    c.self.invariant.others_known

pub invariant_of-self : goal.invariant_of-self
invariant_of-self g c =
    let fewer : length c.drop_left.new.self.items ≤ length c.self.inside.groups.items =
    omega (arith, ap length c.drop_left.ensures.items, length-stayed c.self.inside.groups.items) in
    record {
      number_fits = c.self.invariant.number_fits;
      pages_fit = c.self.invariant.pages_fit;
      gens_fit = c.self.invariant.gens_fit;
      sound = rw c.drop_left.ensures.items (IsSound-swept (state_of c.self.inside) c.self.invariant.sound);
      rooms = λ class. rw c.drop_left.ensures.items (c.sweep_rooms.ensures.has c.self.inside.slot_limit c.self.invariant.rooms class);
      room_for_groups = omega (arith, fewer, c.self.invariant.room_for_groups, c.drop_left.ensures.capacity);
      room_for_rooms = rw c.drop_left.ensures.items
          (HaveRoom-swept c.self.inside.groups.items c.self.inside.rooms _ c.self.invariant.room_for_rooms c.sweep_rooms.new.rooms _
          (omega (arith, length-stayed c.self.inside.groups.items)) (λ class. omega (arith, c.sweep_rooms.ensures.room class)));
      room_for_class = λ some class. omega (arith, fewer, c.self.invariant.room_for_class some class, c.sweep_rooms.ensures.room class);
      room_for_guests = rw c.drop_left.ensures.items
          (HasGuestRoom-swept c.self.inside.groups.items c.self.inside.guests.onto c.self.inside.guests.span_room
          c.self.inside.guests.list_room c.self.invariant.room_for_guests);
      guests_known = rw c.drop_left.ensures.items (KnowsGuests-swept c.self.inside.groups.items c.self.inside.guests.directory.entries c.self.invariant.guests_known);
      room_for_entries = c.self.invariant.room_for_entries;
      heads_known = c.note_from.ensures.known;
      room_for_heads = λ some. let enough = c.self.invariant.room_for_heads some in omega (arith, enough, noted_end g c);
      others_known = c.note_from.ensures.others c.self.inside.guests.directory.entries
          (λ id own none. away g c id own (λ index group at. absurd (let e = at.here in cc)));
      room_for_notes = λ head named. let enough = c.self.invariant.room_for_notes head named in omega (arith, enough, noted_end g c);
      least_known = c.clear_bytes.ensures.known c.drop_left.new.self.items;
      room_for_bytes = omega (arith, fewer, c.self.invariant.room_for_bytes, c.clear_bytes.ensures.len);
    }

pub returns-clause-sound : goal.returns-clause-sound
returns-clause-sound g c = (invariant_of-self g c).sound

pub note_from-requires : goal.note_from-requires
note_from-requires g c =
    subst (λ gs. AreReady c.self.inside.number gs c.strike_heads.new.self 0) (sym c.drop_left.ensures.items)
    (AreReady-swept (state_of c.self.inside) c.self.invariant.sound c.self.inside.heads c.self.invariant.heads_known c.self.invariant.pages_fit c.strike_heads.new.self
    c.strike_heads.ensures.base c.strike_heads.ensures.end)
