use Rattle.std.proofs.Common.{◌/◌, ◌*◌, ◌≡◌, ℕ, ◌≤◌, ◌<◌, ◌∙◌, ◌+◌, List, [], Some, false, length, insert, ap, sym, subst, refl, inl, inr, arith}
use Rattle.std.proofs.lemmas.Bool.{cases_lt}
use Rattle.std.proofs.lemmas.Option.{slice_get_within}
use Rattle.std.specs.FinSet as set
use Rattle.std.specs.FinSet.{contains}
use Rattle.span.proofs.LegalLogs.{puts_of-empty}
use Rattle.span.specs.Ids.{rank}
use Rattle.span.specs.Log.{live_slots, puts_of, worn_slots}
use Rattle.span.specs.State.{SpanState}
use Rattle.span.specs.declared.id.SpanId.{SpanId}
use Rattle.page.specs.Words.{blank_page, set_object}
use Rattle.groups.specs.Group.{IsPlaceFor}
use Rattle.groups.specs.Spans.{new_span, with_put}
use Rattle.groups.proofs.Maps.{at_err}
use Rattle.groups.proofs.HeadPlaces.{IsLower}
use Rattle.groups.proofs.Logs.{contains-live_slots-empty, contains-worn_slots-empty}
use Rattle.groups.proofs.Standing.{head_id}
use Rattle.shard.specs.Calls.{new_group}
use Rattle.shard.specs.Group.{GroupState, group_of}
use Rattle.shard.specs.Kept.{state_of}
use Rattle.shard.specs.Least.{KnowsLeast}
use Rattle.shard.specs.Rooms.{HaveRoom, room_of, rooms_of}
use Rattle.shard.specs.State.{ShardState}
use Rattle.span.specs.declared.class.Class.{Class}
use Rattle.shard.proofs.ClassesHere.{HaveRoom-insert, HaveRoom-noted}
use Rattle.shard.proofs.KnownHeads.{KnowsHeads-more}
use Rattle.shard.proofs.Classes.{cases_class}
use Rattle.shard.proofs.GuestRoom.{HasGuestRoom-none}
use Rattle.shard.proofs.HeadPlaces.{IsPlaceFor-lower, no_head_next}
use Rattle.shard.proofs.KeptGroups.{IsKept-bytes, IsKept-more_heads, IsKept-same}
use Rattle.shard.proofs.KnownGuests.{KnowsGuests-alone}
use Rattle.shard.proofs.NotedGuests.{KnowsNoHeads-arrived, KnowsNoHeads-more}
use Rattle.shard.proofs.PutInNew.{IsSound-put_in_new}
use Rattle.shard.proofs.RoomBits.{HasRooms-arrived, HasRooms-arrived_other}
use Rattle.shard.proofs.shard.Shard.put_in_new.Goals as goal

pub put_at-requires-clause-not_live : goal.put_at-requires-clause-not_live
put_at-requires-clause-not_live g c = ap (λ (s : SpanState). set.contains (live_slots s.log) 0) c.with_log-head.ensures ∙ contains-live_slots-empty 0

pub put_at-requires-clause-not_worn : goal.put_at-requires-clause-not_worn
put_at-requires-clause-not_worn g c = ap (λ (s : SpanState). set.contains (worn_slots s.gens s.log) 0) c.with_log-head.ensures
    ∙ contains-worn_slots-empty c.self.inside.gens 0 c.self.invariant.gens_fit

-- where the list of groups could not grow, all is as it was
pub invariant_of-self : goal.invariant_of-self
invariant_of-self g c = IsKept-same c.self.inside c.self.invariant c.reserve_group.new.groups c.self.inside.rooms c.reserve_group.ensures.items
    (omega (arith, c.reserve_group.ensures.capacity)) c.self.invariant.rooms (λ class. omega arith)

pub lower_heads-index-requires : goal.lower_heads-index-requires
lower_heads-index-requires g c = rw c.in_ok-reserve_group.ensures.items c.self.invariant.sound.ascending

head_now : (g : _) (c : goal.After-leave_onto g) → c.put_at.new.self ≡ with_put (new_span c.in-Some.id c.args.class c.self.inside.gens) 0 c.args.words.now
head_now g c = c.in_ok-key.ensures.ok ∙ ap (λ (s : SpanState). with_put s 0 c.args.words.now) c.with_log-head.ensures

abbrev made : (g : _) → goal.After-leave_onto g → GroupState
made g c = new_group c.in-Some.id c.args.class c.self.inside.gens c.args.words.now

group_now : (g : _) (c : goal.After-leave_onto g) → c.of-2.result ≡ made g c
group_now g c =
    c.of-2.ensures
    ∙ rw (c.of.ensures, c.new-2.ensures, (c.in_ok-page.ensures {u = tt}).words)
    (ap (λ (head : SpanState). group_of (record { head = head; guests = [] }) (Some (set_object blank_page c.args.class 0 c.args.words.now)) false)
    (head_now g c))

list_is : (g : _) (c : goal.After-leave_onto g) → c.reserve_group.new.groups.items ≡ c.self.inside.groups.items
list_is g c = c.in_ok-reserve_group.ensures.items

groups_now : (g : _) (c : goal.After-leave_onto g) → c.insert_reserved.new.self.items ≡ insert c.self.inside.groups.items c.lower_heads-index.result (made g c)
groups_now g c = c.insert_reserved.ensures.items ∙ rw (c.in_ok-reserve_group.ensures.items, group_now g c) refl

lower_now : (g : _) (c : goal.After-leave_onto g) → IsLower head_id c.self.inside.groups.items (rank c.in-Some.id) c.lower_heads-index.result
lower_now g c =
    subst (λ (groups : List GroupState). IsLower head_id groups (rank c.in-Some.id) c.lower_heads-index.result) (list_is g c)
    (record { within = c.lower_heads-index.ensures.within; lower = c.lower_heads-index.ensures.lower; others = c.lower_heads-index.ensures.others })

place_now : (g : _) (c : goal.After-leave_onto g) → IsPlaceFor c.self.inside.groups.items c.in-Some.id c.lower_heads-index.result
place_now g c =
    IsPlaceFor-lower c.self.inside.groups.items c.in-Some.id c.lower_heads-index.result (lower_now g c)
    (no_head_next (state_of c.self.inside) c.self.invariant.sound c.in-Some.id c.in-Some.ensures.parts.0 c.in-Some.ensures.parts.1)

below_now : (g : _) (c : goal.After-leave_onto g) → (class : Class) (n : ℕ) → n / 4 < c.lower_heads-index.result
    → contains (rooms_of c.note_arrival.new.self class) n ≡ contains (rooms_of c.self.inside.rooms class) n
below_now g c class n less = c.note_arrival.ensures.below class n less ∙ ap (λ s. contains s n) (c.in_ok-reserve.ensures.same class)

above_now : (g : _) (c : goal.After-leave_onto g) → (class : Class) (n : ℕ) → c.lower_heads-index.result ≤ n / 4
    → contains (rooms_of c.note_arrival.new.self class) (n + 4) ≡ contains (rooms_of c.self.inside.rooms class) n
above_now g c class n from = c.note_arrival.ensures.above class n from ∙ ap (λ s. contains s n) (c.in_ok-reserve.ensures.same class)

-- the byte of the group before it may be another
noted : (g : _) (c : goal.After-leave_onto g) → KnowsLeast c.self.inside.groups.items c.note_before.new.least.items
noted g c = rw (← c.in_ok-reserve_group.ensures.items)
    (c.note_before.ensures.known
    (rw c.in_ok-reserve_group.ensures.items (c.in_ok-reserve_bytes.ensures.known c.self.inside.groups.items c.self.invariant.least_known)))

-- each set that had room for the groups has room for one more
room_before : (g : _) (c : goal.After-leave_onto g)
    → HaveRoom c.self.inside.groups.items c.note_arrival.new.self (length c.insert_reserved.new.self.items + c.saturating_sub-self-inside.result)
room_before g c index group there =
    let class = group.head.class in
    let had = c.self.invariant.room_for_rooms index group there in
    let low = slice_get_within c.self.inside.groups.items index group there in
    let used = c.in_ok-reserve.ensures.used class (omega (arith, had, low)) in
    omega (
      arith,
      had,
      used,
      c.in_ok-reserve.ensures.more class,
      c.note_arrival.ensures.room class,
      c.len.ensures,
      c.insert_reserved.ensures.len,
      c.in_ok-reserve_group.ensures.len,
      c.saturating_sub-self-inside.ensures,
    )

-- and so has that of the class
room_here : (g : _) (c : goal.After-leave_onto g)
    → 4 * (length c.insert_reserved.new.self.items + c.saturating_sub-self-inside.result) ≤ room_of c.note_arrival.new.self c.args.class
room_here g c =
    let own = c.in_ok-reserve.ensures.ok c.args.class (omega arith) in
    elim (cases_lt 0 c.self.inside.group_room) [
      | inl some ↦ omega (
        arith,
        some,
        c.self.invariant.room_for_class some c.args.class,
        c.in_ok-reserve.ensures.more c.args.class,
        c.note_arrival.ensures.room c.args.class,
        c.insert_reserved.ensures.len,
        c.in_ok-reserve_group.ensures.len,
        c.saturating_sub-self-inside.ensures,
      )
      | inr none ↦ omega (
        arith,
        none,
        own,
        c.note_arrival.ensures.room c.args.class,
        c.len.ensures,
        c.insert_reserved.ensures.len,
        c.in_ok-reserve_group.ensures.len,
        c.saturating_sub-self-inside.ensures,
      )
    ]

pub invariant_of-self-2 : goal.invariant_of-self-2
invariant_of-self-2 g c = record {
  number_fits = c.self.invariant.number_fits;
  pages_fit = c.self.invariant.pages_fit;
  gens_fit = c.self.invariant.gens_fit;
  sound = rw (groups_now g c, c.leave_onto.ensures, c.saturating_sub-self-inside.ensures)
      (IsSound-put_in_new (state_of c.self.inside) c.self.invariant.sound c.in-Some.id c.in-Some.ensures.parts.0 c.in-Some.ensures.parts.1 c.args.class
      c.lower_heads-index.result c.args.words.now c.requires.width (place_now g c)
      (ap (λ (s : ShardState). s.ended) c.self.view_is ∙ c.requires.running)
      (subst (λ (s : ShardState). length s.groups < s.page_limit) (sym c.self.view_is) c.requires.pages)
      (subst (λ (s : ShardState). s.opened < s.span_limit) (sym c.self.view_is) c.requires.opened));
  rooms = λ class. rw (groups_now g c) (elim (cases_class (made g c).head.class class) [
    | inl same ↦ HasRooms-arrived class c.self.inside.groups.items (rooms_of c.self.inside.rooms class) (c.self.invariant.rooms class) c.lower_heads-index.result
        (made g c) (place_now g c).within (rooms_of c.note_arrival.new.self class) (below_now g c class) (above_now g c class) same
        (λ n at. ap (λ k. contains (rooms_of c.note_arrival.new.self k) n) (sym same) ∙ c.note_arrival.ensures.this n at)
    | inr apart ↦ HasRooms-arrived_other class c.self.inside.groups.items (rooms_of c.self.inside.rooms class) (c.self.invariant.rooms class) c.lower_heads-index.result
        (made g c) (place_now g c).within (rooms_of c.note_arrival.new.self class) (below_now g c class) (above_now g c class) apart
        (c.note_arrival.ensures.others class (λ e. apart (sym e)))
  ]);
  room_for_groups = omega (
    arith,
    c.self.invariant.room_for_groups,
    c.insert_reserved.ensures.len,
    c.insert_reserved.ensures.capacity,
    c.in_ok-reserve_group.ensures.len,
    c.in_ok-reserve_group.ensures.ok,
    c.in_ok-reserve_group.ensures.capacity,
    c.saturating_sub-self-inside.ensures,
  );
  room_for_rooms = subst (λ (gs : List GroupState). HaveRoom gs c.note_arrival.new.self (length c.insert_reserved.new.self.items + c.saturating_sub-self-inside.result)) (sym (groups_now g c))
      (HaveRoom-insert c.self.inside.groups.items c.note_arrival.new.self _ (room_before g c) c.lower_heads-index.result (made g c) (place_now g c).within (room_here g c));
  room_for_class = λ some class. omega (
    arith,
    c.self.invariant.room_for_class (omega (arith, some, c.saturating_sub-self-inside.ensures)) class,
    some,
    c.insert_reserved.ensures.len,
    c.in_ok-reserve_group.ensures.len,
    c.in_ok-reserve.ensures.more class,
    c.note_arrival.ensures.room class,
    c.saturating_sub-self-inside.ensures,
  );
  room_for_guests = rw c.leave_onto.ensures (HasGuestRoom-none _ _ _);
  guests_known = rw (groups_now g c, c.leave_onto.ensures)
      (KnowsGuests-alone c.self.inside.groups.items c.self.inside.guests.directory.entries c.self.invariant.guests_known c.lower_heads-index.result (made g c)
      (place_now g c).within refl);
  room_for_entries = rw c.leave_onto.ensures c.self.invariant.room_for_entries;
  heads_known = rw (groups_now g c)
      (c.note_arrival-2.ensures.known c.self.inside.groups.items (made g c)
      (omega (arith, c.len-4.ensures, c.insert_reserved.ensures.len, c.in_ok-reserve_group.ensures.len)) refl
      (λ index group at. no_head_next (state_of c.self.inside) c.self.invariant.sound c.in-Some.id c.in-Some.ensures.parts.0 c.in-Some.ensures.parts.1 index group at.here at.head_is)
      (λ own. omega (arith, c.in-Some.ensures.parts.1, c.in_ok-reserve-2.ensures.ok))
      (KnowsHeads-more c.self.inside.number c.self.inside.groups.items c.self.inside.heads c.self.invariant.heads_known c.reserve-2.new.self
      c.in_ok-reserve-2.ensures.base c.in_ok-reserve-2.ensures.same c.in_ok-reserve-2.ensures.more));
  room_for_heads = λ some. omega (arith, c.in_ok-reserve-2.ensures.ok, c.note_arrival-2.ensures.end);
  others_known = rw (groups_now g c, c.leave_onto.ensures)
      (KnowsNoHeads-arrived c.self.inside.number c.self.inside.groups.items c.self.inside.guests.directory.entries c.reserve-2.new.self
      (KnowsNoHeads-more c.self.inside.number c.self.inside.groups.items c.self.inside.guests.directory.entries c.self.inside.heads c.self.invariant.others_known c.reserve-2.new.self
      c.in_ok-reserve-2.ensures.base c.in_ok-reserve-2.ensures.same)
      c.in-Some.id c.lower_heads-index.result (made g c) (place_now g c).within refl c.note_arrival-2.new.self c.note_arrival-2.ensures.base c.note_arrival-2.ensures.guests);
  room_for_notes = rw c.leave_onto.ensures (λ head named. absurd cc);
  least_known = rw (groups_now g c) (c.add_byte.ensures.known c.self.inside.groups.items (made g c) (place_now g c).within (noted g c));
  room_for_bytes = omega (
    arith,
    c.self.invariant.room_for_bytes,
    c.insert_reserved.ensures.len,
    c.in_ok-reserve_group.ensures.len,
    c.in_ok-reserve_bytes.ensures.no_fewer,
    c.in_ok-reserve_bytes.ensures.ok,
    c.note_before.ensures.len,
    c.add_byte.ensures.len,
    c.saturating_sub-self-inside.ensures,
  );
}

pub returns-clause-ok : goal.returns-clause-ok
returns-clause-ok g c =
    let span : c.in_ok-key.key.span ≡ c.in-Some.id = c.in_ok-key.ensures.key.0 ∙ ap (λ (s : SpanState). s.id) c.with_log-head.ensures in
    let now = c.self.view_is in (
      ap (λ (i : SpanId). i.shard) span ∙ c.in-Some.ensures.parts.0 ∙ ap (λ (s : ShardState). s.number) now,
      ap (λ (i : SpanId). i.serial) span ∙ c.in-Some.ensures.parts.1 ∙ ap (λ (s : ShardState). s.opened) now,
      c.in_ok-key.ensures.key.1,
      c.in_ok-key.ensures.key.2 ∙ ap (λ (s : SpanState). puts_of 0 s.log + 1) c.with_log-head.ensures ∙ ap (λ n. n + 1) (puts_of-empty 0),
      refl,
      (
        c.lower_heads-index.result,
        subst (λ (s : ShardState). IsPlaceFor s.groups c.in_ok-key.key.span c.lower_heads-index.result) now (rw span (place_now g c)),
        rw (← now, span, groups_now g c, c.leave_onto.ensures, c.saturating_sub-self-inside.ensures) refl,
      ),
    )

-- where the sets of those with room could not grow, all is as it was
pub invariant_of-self-in_err-reserve : goal.invariant_of-self-in_err-reserve
invariant_of-self-in_err-reserve g c =
    IsKept-same c.self.inside c.self.invariant c.reserve_group.new.groups c.reserve.new.self c.in_ok-reserve_group.ensures.items
    (omega (arith, c.in_ok-reserve_group.ensures.capacity)) (λ class. rw (c.in_err-reserve.ensures.same class) (c.self.invariant.rooms class))
    (λ class. omega (arith, c.in_err-reserve.ensures.more class))

pub note_arrival-requires-clause-few : goal.note_arrival-requires-clause-few
note_arrival-requires-clause-few g c =
    let pages = subst (λ (s : ShardState). length s.groups < s.page_limit) (sym c.self.view_is) c.requires.pages in
    omega (arith, pages, c.self.invariant.pages_fit, c.len-2.ensures, c.insert_reserved.ensures.len, c.in_ok-reserve_group.ensures.len)

pub note_arrival-requires-clause-room : goal.note_arrival-requires-clause-room
note_arrival-requires-clause-room g c =
    omega (arith, c.in_ok-reserve.ensures.ok c.args.class (omega arith), c.len.ensures, c.len-2.ensures, c.insert_reserved.ensures.len, c.in_ok-reserve_group.ensures.len)

pub note_arrival-requires-clause-had : goal.note_arrival-requires-clause-had
note_arrival-requires-clause-had g c class n member =
    let noted = ap (λ s. contains s n) (sym (c.in_ok-reserve.ensures.same class)) ∙ member in
    let low = (c.self.invariant.rooms class).within n noted in
    let had = HaveRoom-noted c.self.inside.groups.items c.self.inside.rooms _ c.self.invariant.room_for_rooms class (c.self.invariant.rooms class) n noted in
    let used = c.in_ok-reserve.ensures.used class (omega (arith, had, low)) in (
      omega (arith, low, c.len-2.ensures, c.insert_reserved.ensures.len, c.in_ok-reserve_group.ensures.len),
      omega (arith, used, c.len.ensures, c.len-2.ensures, c.insert_reserved.ensures.len, c.in_ok-reserve_group.ensures.len),
    )

-- where the indexes of heads could not grow, all is as it was
pub invariant_of-self-in_err-reserve-2 : goal.invariant_of-self-in_err-reserve-2
invariant_of-self-in_err-reserve-2 g c =
    IsKept-more_heads _ (IsKept-same c.self.inside c.self.invariant c.reserve_group.new.groups c.reserve.new.self c.in_ok-reserve_group.ensures.items
    (omega (arith, c.in_ok-reserve_group.ensures.capacity)) (λ class. rw (c.in_ok-reserve.ensures.same class) (c.self.invariant.rooms class))
    (λ class. omega (arith, c.in_ok-reserve.ensures.more class)))
    c.reserve-2.new.self c.in_err-reserve-2.ensures.base c.in_err-reserve-2.ensures.same c.in_err-reserve-2.ensures.more

-- where there was no room for a byte more, the bytes say what they said
pub invariant_of-self-in_err-reserve_bytes : goal.invariant_of-self-in_err-reserve_bytes
invariant_of-self-in_err-reserve_bytes g c =
    IsKept-bytes _ (IsKept-more_heads _ (IsKept-same c.self.inside c.self.invariant c.reserve_group.new.groups c.reserve.new.self c.in_ok-reserve_group.ensures.items
    (omega (arith, c.in_ok-reserve_group.ensures.capacity)) (λ class. rw (c.in_ok-reserve.ensures.same class) (c.self.invariant.rooms class))
    (λ class. omega (arith, c.in_ok-reserve.ensures.more class)))
    c.reserve-2.new.self c.in_ok-reserve-2.ensures.base c.in_ok-reserve-2.ensures.same c.in_ok-reserve-2.ensures.more)
    c.reserve_bytes.new.least c.in_err-reserve_bytes.ensures.no_fewer (rw c.in_ok-reserve_group.ensures.items (c.in_err-reserve_bytes.ensures.known c.self.inside.groups.items c.self.invariant.least_known))

pub add_byte-requires : goal.add_byte-requires
add_byte-requires g c =
    omega (
      arith,
      c.lower_heads-index.ensures.within,
      ap length c.in_ok-reserve_group.ensures.items,
      c.in_ok-reserve_group.ensures.len,
      c.in_ok-reserve_bytes.ensures.ok,
      c.note_before.ensures.len,
    )

-- where the lists of the last steps could not grow, the state is what it was
pub returns-in_err-reserve-2-clause-err : goal.returns-in_err-reserve-2-clause-err
returns-in_err-reserve-2-clause-err g c =
    at_err c.from_residual-in_err-reserve-2.result
    (ap (λ (groups : List GroupState). record (state_of c.self.inside) { groups = groups }) c.in_ok-reserve_group.ensures.items ∙ c.self.view_is)

pub returns-in_err-reserve_bytes-clause-err : goal.returns-in_err-reserve_bytes-clause-err
returns-in_err-reserve_bytes-clause-err g c =
    at_err c.from_residual-in_err-reserve_bytes.result
    (ap (λ (groups : List GroupState). record (state_of c.self.inside) { groups = groups }) c.in_ok-reserve_group.ensures.items ∙ c.self.view_is)
