use Rattle.std.proofs.Common.{◌≡◌, ◌≤◌, ◌+◌, ◌*◌, ◌∙◌, ℕ, List, None, Option, ap, arith, inl, length, length-set, refl, set, slice_get, subst, sym}
use Rattle.std.specs.Prelude.{filter, remove, vec_len}
use Rattle.groups.specs.Directory.{DirectoryState}
use Rattle.groups.specs.Group.{HasNoHead, IsHeadOf}
use Rattle.groups.proofs.Lists.{set-same}
use Rattle.std.proofs.lemmas.Option.{slice_get_within}
use Rattle.span.specs.declared.id.SpanId.{SpanId}
use Rattle.shard.specs.Group.{GroupState}
use Rattle.shard.specs.Kept.{state_of}
use Rattle.shard.specs.Leaving.{has_stayed, left_place, swept}
use Rattle.shard.specs.Rooms.{HaveRoom, room_of, rooms_of}
use Rattle.shard.specs.State.{ShardState}
use Rattle.shard.proofs.ClassesHere.{HaveRoom-set}
use Rattle.shard.proofs.KnownHeads.{KnowsHeads-set}
use Rattle.shard.proofs.GuestRoom.{HasGuestRoom-none}
use Rattle.shard.proofs.HeadsHere.{head_read}
use Rattle.shard.proofs.KeptGroups.{IsKept-same}
use Rattle.shard.proofs.Left.{HasNoHead-left, HasNoHead-swept, IsSound-left, KnowsGuests-left, stayed-left}
use Rattle.shard.proofs.LiftedGroup.{IsSoundWhole-lifted}
use Rattle.shard.proofs.Forgotten.{no_head-guest}
use Rattle.shard.proofs.NotedGuests.{KnowsNoHeads-set, KnowsNoHeads-struck}
use Rattle.span.specs.State.{SpanState}
use Rattle.groups.specs.Spans.{SpansState}
use Rattle.shard.proofs.RoomBits.{HasRooms-full}
use Rattle.shard.proofs.shard.Shard.lift_aside.Goals as goal

pub returns-in_default-clause-lifts : goal.returns-in_default-clause-lifts
returns-in_default-clause-lifts g c = (HasNoHead-swept c.args.self.now.groups c.args.head (c.in_default.ensures {u = tt}).head, refl)

pub invariant_of-self : goal.invariant_of-self
invariant_of-self g c =
    let head_here = head_read c.self.inside.groups.items c.args.self.now.groups
    (ap (λ (s : ShardState). s.groups) c.self.view_is) c.args.head c.in-Some.index c.in-Some.ensures.head c.index_mut-group.result.now
    c.index_mut-group.ensures.value in
    IsKept-same c.self.inside c.self.invariant _ c.self.inside.rooms
    (set-same c.self.inside.groups.items c.in-Some.index c.index_mut-group.result.now head_here.here) (omega arith) c.self.invariant.rooms
    (λ class. omega arith)

pub returns-then-has_left-clause-lifts : goal.returns-then-has_left-clause-lifts
returns-then-has_left-clause-lifts g c =
    let group = c.index_mut-group.result.now in
    let head_here = head_read c.self.inside.groups.items c.args.self.now.groups
    (ap (λ (s : ShardState). s.groups) c.self.view_is) c.args.head c.in-Some.index c.in-Some.ensures.head group c.index_mut-group.ensures.value in (
      subst (λ (s : ShardState). HasNoHead (filter has_stayed s.groups) c.args.head) c.self.view_is
          (HasNoHead-left (state_of c.self.inside) c.self.invariant.sound c.in-Some.index group head_here.here group.head.class c.args.head head_here.head_is
          (sym c.has_left.ensures ∙ c.if-has_left.true)),
      ap (λ (groups : List GroupState). swept (record (state_of c.self.inside) { groups = groups }))
          (set-same c.self.inside.groups.items c.in-Some.index group head_here.here) ∙ ap swept c.self.view_is,
    )

pub new-requires-clause-sound : goal.new-requires-clause-sound
new-requires-clause-sound g c =
    let head_here = head_read c.self.inside.groups.items c.args.self.now.groups
    (ap (λ (s : ShardState). s.groups) c.self.view_is) c.args.head c.in-Some.index c.in-Some.ensures.head c.index_mut-group.result.now
    c.index_mut-group.ensures.value in
    rw (c.into_parts-spans.ensures.spans, c.into_parts-spans.ensures.page, c.replace.ensures.value)
    (IsSoundWhole-lifted (state_of c.self.inside) c.self.invariant.sound c.in-Some.index c.index_mut-group.result.now head_here.here)

-- the group that left, where it stood
here_now : (g : _) (c : goal.After-new g) → IsHeadOf c.self.inside.groups.items c.args.head c.in-Some.index c.index_mut-group.result.now
here_now g c = head_read c.self.inside.groups.items c.args.self.now.groups
    (ap (λ (s : ShardState). s.groups) c.self.view_is) c.args.head c.in-Some.index c.in-Some.ensures.head c.index_mut-group.result.now
    c.index_mut-group.ensures.value

place_now : (g : _) (c : goal.After-new g) → c.replace.new.dest ≡ left_place c.index_mut-group.result.now.head.id c.class.result c.self.inside.gens
place_now g c = c.replace.ensures.after ∙ c.left_by-place.ensures ∙ ap (λ id. left_place id c.class.result c.self.inside.gens) c.head_id.ensures

guests_were : (g : _) (c : goal.After-new g) → c.guests-2.result.now ≡ c.index_mut-group.result.now.guests
guests_were g c = c.guests-2.ensures ∙ ap (λ (s : SpansState). s.guests) c.into_parts-spans.ensures.spans ∙ ap (λ (x : GroupState). x.guests) c.replace.ensures.value

pub invariant_of-self-2 : goal.invariant_of-self-2
invariant_of-self-2 g c =
    let group = c.index_mut-group.result.now in
    let place = left_place group.head.id c.class.result c.self.inside.gens in
    let here = (here_now g c).here in
    let many : length (set c.self.inside.groups.items c.in-Some.index c.replace.new.dest) ≡ length c.self.inside.groups.items =
    length-set c.self.inside.groups.items c.in-Some.index c.replace.new.dest in
    record {
      number_fits = c.self.invariant.number_fits;
      pages_fit = c.self.invariant.pages_fit;
      gens_fit = c.self.invariant.gens_fit;
      sound = rw (place_now g c, c.depart.ensures.onto, c.depart.ensures.span_room) (IsSound-left (state_of c.self.inside) c.self.invariant.sound c.in-Some.index group here c.class.result);
      rooms = λ class. rw (place_now g c)
          (HasRooms-full class c.self.inside.groups.items (rooms_of c.self.inside.rooms class) (c.self.invariant.rooms class) c.in-Some.index place group here
          c.class.ensures (λ word none. inl refl));
      room_for_groups = subst (λ (n : ℕ). n + c.self.inside.group_room ≤ c.self.inside.groups.room) (sym many) c.self.invariant.room_for_groups;
      room_for_rooms = rw (place_now g c)
          (subst (λ (n : ℕ). HaveRoom (set c.self.inside.groups.items c.in-Some.index place) c.self.inside.rooms (n + c.self.inside.group_room))
          (sym (length-set c.self.inside.groups.items c.in-Some.index place))
          (HaveRoom-set c.self.inside.groups.items c.self.inside.rooms _ c.self.invariant.room_for_rooms c.in-Some.index group place here c.class.ensures
          c.self.inside.rooms (length c.self.inside.groups.items + c.self.inside.group_room) (omega arith) (λ class. omega arith)));
      room_for_class = λ some class. subst (λ (n : ℕ). 4 * (n + c.self.inside.group_room) ≤ room_of c.self.inside.rooms class) (sym many) (c.self.invariant.room_for_class some class);
      room_for_guests = rw c.depart.ensures.onto (HasGuestRoom-none _ _ _);
      guests_known = rw (place_now g c, c.depart.ensures.directory, c.guests.ensures, c.into_parts-spans.ensures.spans, c.replace.ensures.value)
          (KnowsGuests-left (state_of c.self.inside) c.self.invariant.sound c.in-Some.index group here c.class.result c.self.inside.guests.directory.entries c.self.invariant.guests_known);
      room_for_entries = omega (arith, c.self.invariant.room_for_entries, c.depart.ensures.span_room, ap (λ (d : DirectoryState). d.room) c.depart.ensures.directory);
      heads_known = rw (place_now g c)
          (KnowsHeads-set c.self.inside.number c.self.inside.groups.items c.strike_guests.new.self
          (c.strike_guests.ensures.heads c.self.inside.groups.items c.self.invariant.heads_known
          (λ at guest there from. no_head-guest c.self.inside.groups.items c.self.invariant.sound.once c.in-Some.index at group guest here
          (ap (λ (spans : List SpanState). slice_get spans at) (sym (guests_were g c)) ∙ there)))
          c.in-Some.index group place here refl);
      room_for_heads = λ some. let enough = c.self.invariant.room_for_heads some in omega (arith, enough, c.strike_guests.ensures.end);
      others_known = rw (place_now g c)
          (KnowsNoHeads-set c.self.inside.number c.self.inside.groups.items c.depart.new.self.directory.entries c.strike_guests.new.self
          (KnowsNoHeads-struck c.self.inside.number c.self.inside.groups.items c.self.inside.guests.directory.entries c.depart.new.self.directory.entries c.strike_guests.new.self _ _
          (c.strike_guests.ensures.known c.self.inside.groups.items c.self.inside.guests.directory.entries c.self.invariant.others_known)
          (c.guests-2.ensures ∙ sym c.guests.ensures) (ap (λ (d : DirectoryState). d.entries) c.depart.ensures.directory))
          c.in-Some.index group place here refl);
      room_for_notes = λ head named. absurd (let none = sym c.depart.ensures.onto ∙ named in cc);
      least_known = c.clear_byte.ensures.known c.self.inside.groups.items c.replace.new.dest c.self.invariant.least_known;
      room_for_bytes = subst (λ (n : ℕ). n + c.self.inside.group_room ≤ vec_len c.clear_byte.new.least) (sym many) (omega (arith, c.self.invariant.room_for_bytes, c.clear_byte.ensures.len));
    }

pub returns-clause-lifts : goal.returns-clause-lifts
returns-clause-lifts g c =
    let group = c.index_mut-group.result.now in
    let left = stayed-left (state_of c.self.inside) c.self.invariant.sound c.in-Some.index group (here_now g c).here c.class.result c.args.head
    (here_now g c).head_is (sym c.has_left.ensures ∙ c.if-has_left.false) in (
      left.0,
      group,
      subst (λ (s : ShardState). IsHeadOf (filter has_stayed s.groups) c.args.head left.0 group) c.self.view_is left.1,
      c.new.ensures ∙ rw (c.into_parts-spans.ensures.spans, c.into_parts-spans.ensures.page, c.replace.ensures.value) refl,
      ap (λ (onto : Option SpanId). record (state_of c.self.inside) {
        onto = onto;
        span_room = c.depart.new.self.span_room;
        groups = filter has_stayed (set c.self.inside.groups.items c.in-Some.index c.replace.new.dest);
      }) c.depart.ensures.onto
          ∙ ap (λ (room : ℕ). record (state_of c.self.inside) {
            onto = None;
            span_room = room;
            groups = filter has_stayed (set c.self.inside.groups.items c.in-Some.index c.replace.new.dest);
          }) c.depart.ensures.span_room
          ∙ ap (λ (place : GroupState). record (state_of c.self.inside) { onto = None; groups = filter has_stayed (set c.self.inside.groups.items c.in-Some.index place) }) (place_now g c)
          ∙ ap (λ (groups : List GroupState). record (state_of c.self.inside) { onto = None; groups = groups }) left.2
          ∙ ap (λ (s : ShardState). record s { onto = None; groups = remove (filter has_stayed s.groups) left.0 }) c.self.view_is,
    )

pub returns-clause-sound : goal.returns-clause-sound
returns-clause-sound g c = (invariant_of-self-2 g c).sound

pub clear_byte-requires : goal.clear_byte-requires
clear_byte-requires g c =
    let head_here = head_read c.self.inside.groups.items c.args.self.now.groups
    (ap (λ (s : ShardState). s.groups) c.self.view_is) c.args.head c.in-Some.index c.in-Some.ensures.head c.index_mut-group.result.now
    c.index_mut-group.ensures.value in
    omega (arith, slice_get_within c.self.inside.groups.items c.in-Some.index c.index_mut-group.result.now head_here.here, c.self.invariant.room_for_bytes)
