use Rattle.std.proofs.Common.{◌≡◌, ◌∙◌, List, ap, arith, length, refl, sym}
use Rattle.std.specs.Prelude.{◌+◌, ◌-◌, map as map_list}
use Rattle.std.proofs.lemmas.List.{length-map}
use Rattle.groups.specs.Dead.{dead_guests, without_dead}
use Rattle.groups.specs.Group.{spans_in}
use Rattle.groups.proofs.DeadGuests.{length-without_dead}
use Rattle.groups.proofs.ForgottenShown.{value_of-without_dead}
use Rattle.shard.specs.Group.{GroupState}
use Rattle.shard.specs.Kept.{state_of}
use Rattle.shard.specs.Rooms.{rooms_of}
use Rattle.shard.specs.Sound.{IsSound}
use Rattle.shard.specs.State.{ShardState}
use Rattle.shard.proofs.ClassesHere.{HaveRoom-map}
use Rattle.shard.proofs.LeastLive.{IsLeast-without_dead}
use Rattle.groups.proofs.KnownLeast.{KnowsLeast-map}
use Rattle.shard.specs.Least.{IsLeast}
use Rattle.shard.proofs.Forgotten.{KnowsHeads-without_dead, KnowsNoHeads-without_dead}
use Rattle.shard.proofs.Forgotten.{HasGuestRoom-without_dead, HasRooms-without_dead, IsSound-without_dead, guests_once, no_head-guest}
use Rattle.shard.proofs.shard.forgetting.Shard+Counted.forget.Goals as goal

pub forget_all-requires-clause-once : goal.forget_all-requires-clause-once
forget_all-requires-clause-once c = guests_once c.self.inside.groups.items c.self.invariant.sound.once

pub forget_all-requires-clause-noted : goal.forget_all-requires-clause-noted
forget_all-requires-clause-noted c = c.self.invariant.others_known

pub forget_all-requires-clause-heads : goal.forget_all-requires-clause-heads
forget_all-requires-clause-heads c = c.self.invariant.heads_known

pub forget_all-requires-clause-apart : goal.forget_all-requires-clause-apart
forget_all-requires-clause-apart c = no_head-guest c.self.inside.groups.items c.self.invariant.sound.once

sound_after : (c : goal.After-forget_all) → IsSound (record (state_of c.self.inside) { groups = c.forget_all.new.groups.items; span_room = c.forget_all.new.guests.span_room; onto = c.forget_all.new.guests.onto })
sound_after c = rw (c.forget_all.ensures.items, c.forget_all.ensures.spans.onto, c.forget_all.ensures.spans.span_room) (IsSound-without_dead (state_of c.self.inside) c.self.invariant.sound)

pub invariant_of-self : goal.invariant_of-self
invariant_of-self c =
    let many : length c.forget_all.new.groups.items ≡ length c.self.inside.groups.items =
    omega (arith, ap length c.forget_all.ensures.items, length-map c.self.inside.groups.items (without_dead {Closed = _})) in
    record {
      number_fits = c.self.invariant.number_fits;
      pages_fit = c.self.invariant.pages_fit;
      gens_fit = c.self.invariant.gens_fit;
      sound = sound_after c;
      rooms = λ class. rw c.forget_all.ensures.items (HasRooms-without_dead class c.self.inside.groups.items (rooms_of c.self.inside.rooms class) (c.self.invariant.rooms class));
      room_for_groups = c.forget_all.ensures.capacity;
      room_for_rooms = rw c.forget_all.ensures.items
          (HaveRoom-map c.self.inside.groups.items c.self.inside.rooms _ c.self.invariant.room_for_rooms (without_dead {Closed = _}) (λ group. refl) c.self.inside.rooms _
          (omega (arith, length-map c.self.inside.groups.items (without_dead {Closed = _}))) (λ class. omega arith));
      room_for_class = λ some class. omega (arith, many, c.self.invariant.room_for_class some class);
      room_for_guests = rw (c.forget_all.ensures.items, c.forget_all.ensures.spans.onto, c.forget_all.ensures.spans.span_room, c.forget_all.ensures.spans.list_room)
          (HasGuestRoom-without_dead c.self.inside.groups.items c.self.inside.guests.onto c.self.inside.guests.span_room
          c.self.inside.guests.list_room c.self.invariant.room_for_guests);
      guests_known = c.forget_all.ensures.known;
      room_for_entries = rw (c.forget_all.ensures.room, c.forget_all.ensures.spans.span_room) c.self.invariant.room_for_entries;
      heads_known = rw (c.forget_all.ensures.items) (KnowsHeads-without_dead c.self.inside.number c.self.inside.groups.items c.forget_all.new.heads c.forget_all.ensures.heads);
      room_for_heads = λ some. let enough = c.self.invariant.room_for_heads some in omega (arith, enough, c.forget_all.ensures.end);
      others_known = rw (c.forget_all.ensures.items)
          (KnowsNoHeads-without_dead c.self.inside.number c.self.inside.groups.items c.forget_all.new.guests.directory.entries c.forget_all.new.heads c.forget_all.ensures.noted);
      room_for_notes = rw c.forget_all.ensures.spans.onto (λ head named. let enough = c.self.invariant.room_for_notes head named in omega (arith, enough, c.forget_all.ensures.end));
      least_known = rw c.forget_all.ensures.items (KnowsLeast-map IsLeast c.self.inside.groups.items c.self.inside.least.items c.self.invariant.least_known (without_dead {Closed = _}) IsLeast-without_dead);
      room_for_bytes = omega (arith, many, c.self.invariant.room_for_bytes);
    }

-- how many spans there are before and after
counts : (c : goal.After-span_count) → c.span_count.result + length (dead_guests c.self.inside.groups.items) ≡ c.span_count-before.result
counts c =
    let now : c.span_count.result ≡ length (spans_in (map_list without_dead c.self.inside.groups.items)) = c.span_count.ensures.count
    ∙ ap (λ (groups : List GroupState). length (spans_in groups)) c.forget_all.ensures.items in
    let before : c.span_count-before.result ≡ length (spans_in c.self.inside.groups.items) = c.span_count-before.ensures.count
    ∙ ap (λ (s : ShardState). length (spans_in s.groups)) (sym c.self.view_is) in
    omega (arith, now, before, length-without_dead c.self.inside.groups.items)

pub overflow_sub-result : goal.overflow_sub-result
overflow_sub-result c = omega (arith, counts c)

pub returns-clause-forgets : goal.returns-clause-forgets
returns-clause-forgets c = record {
  after = rw (← c.self.view_is, c.forget_all.ensures.items, c.forget_all.ensures.spans.onto, c.forget_all.ensures.spans.span_room) refl;
  count_is =
      let gone : c.span_count-before.result - c.span_count.result ≡ length (dead_guests c.self.inside.groups.items) = omega (arith, counts c) in
      gone ∙ ap (λ (s : ShardState). length (dead_guests s.groups)) c.self.view_is;
}

pub returns-clause-value : goal.returns-clause-value
returns-clause-value c key =
    let now = IsSound-without_dead (state_of c.self.inside) c.self.invariant.sound in
    rw (← c.self.view_is, c.forget_all.ensures.items)
    (value_of-without_dead c.self.inside.groups.items key c.self.invariant.sound.groups now.groups c.self.invariant.sound.once now.once)

pub returns-clause-sound : goal.returns-clause-sound
returns-clause-sound c =
    rw (c.forget_all.ensures.items, c.forget_all.ensures.spans.onto, c.forget_all.ensures.spans.span_room) (IsSound-without_dead (state_of c.self.inside) c.self.invariant.sound)
