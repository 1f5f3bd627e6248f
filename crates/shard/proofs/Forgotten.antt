-- What stays where groups lose the guests in which no slot is live.
use Rattle.std.proofs.Common.{◌%◌, ◌/◌, zero, suc, ◌≡◌, ℕ, ◌≤◌, Bool, true, cond, List, [], ◌∷◌, Option, Some, slice_get, ◌∙◌, ap, sym, subst, arith, inl, inr, refl, rules}
use Rattle.std.specs.Prelude.{map as map_list, option_map, remove}
use Rattle.std.proofs.lemmas.Bool.{cases_eq}
use Rattle.std.proofs.lemmas.List.{length-map}
use Rattle.bitmap.specs.Slots.{SlotSet}
use Rattle.span.specs.Ids.{same_span}
use Rattle.span.specs.State.{SpanState}
use Rattle.span.specs.declared.class.Class.{Class}
use Rattle.span.specs.declared.id.SpanId.{SpanId}
use Rattle.groups.specs.Dead.{without_dead}
use Rattle.groups.specs.Group.{Ascend, HasNoHead, spans_in, spans_of}
use Rattle.groups.proofs.DeadGuests.{IsSoundGroup-without_dead, before-without_dead, length-live, occupied-without_dead, times-without_dead}
use Rattle.groups.proofs.GroupSpans.{count-spans_remove, count-stands, times}
use Rattle.groups.proofs.Lists.{before-map, count-cons, count-some, same_some}
use Rattle.groups.proofs.Removed.{after-remove}
use Rattle.span.proofs.Ids.{test_from_same_id}
use Rattle.shard.specs.HeadWindow.{HeadWindow}
use Rattle.shard.specs.Heads.{KnowsHeads, KnowsNoHeads}
use Rattle.groups.specs.Directory.{Entries}
use Rattle.std.proofs.lemmas.Option.{slice_get-map}
use Rattle.shard.proofs.NotedGuests.{KnowsNoHeads-fewer}
use Rattle.shard.proofs.KnownHeads.{KnowsHeads-same}
use Rattle.shard.specs.Group.{GroupState, HasNoRoomIn}
use Rattle.shard.specs.Moves.{HasGuestRoom}
use Rattle.shard.specs.Rooms.{HasRooms}
use Rattle.shard.specs.Sound.{IsSound}
use Rattle.shard.specs.State.{ShardState}
use Rattle.shard.proofs.AlikeGroups.{AreSoundGroups-map}
use Rattle.shard.proofs.ChangedBelow.{changed_below}

-- a word that takes no put takes none afterwards
HasNoRoomIn-without_dead : (slot_limit : ℕ) (class : Class) (group : GroupState) (word : ℕ) → HasNoRoomIn slot_limit class group word → HasNoRoomIn slot_limit class (without_dead group) word
HasNoRoomIn-without_dead slot_limit class group word n = search (rules, occupied-without_dead)

pub HasRooms-without_dead : {slot_limit : ℕ} (class : Class) (groups : List GroupState) (rooms : SlotSet) → HasRooms slot_limit class groups rooms → HasRooms slot_limit class (map_list without_dead groups) rooms
HasRooms-without_dead {slot_limit} class groups rooms has = record {
  within = λ q member. rw (length-map groups (without_dead {Closed = _})) (has.within q member);
  others = λ q other there out.
      let before = before-map without_dead groups (q / 4) other there in
      subst (λ (g : GroupState). HasNoRoomIn slot_limit class g (q % 4)) before.2 (HasNoRoomIn-without_dead slot_limit class before.0 (q % 4) (has.others q before.0 before.1 out));
  of_class = λ q other there member.
      let before = before-map without_dead groups (q / 4) other there in
      ap (λ (g : GroupState). g.head.class) (sym before.2) ∙ has.of_class q before.0 before.1 member;
}

-- the heads are as they were

heads : (a b : GroupState) → without_dead b ≡ a → a.head.id ≡ b.head.id
heads a b is = ap (λ (g : GroupState). g.head.id) (sym is)

pub KnowsHeads-without_dead : (number : ℕ) (groups : List GroupState) (window : HeadWindow) → KnowsHeads number groups window → KnowsHeads number (map_list without_dead groups) window
KnowsHeads-without_dead number groups window knows = KnowsHeads-same number groups window knows (map_list without_dead groups) (λ index group there.
    let before = before-map without_dead groups index group there in
    (before.0, before.1, heads group before.0 before.2))

pub KnowsNoHeads-without_dead : (number : ℕ) (groups : List GroupState) (entries : Entries) (window : HeadWindow) → KnowsNoHeads number groups entries window
    → KnowsNoHeads number (map_list without_dead groups) entries window
KnowsNoHeads-without_dead number groups entries window knows = KnowsNoHeads-fewer number groups entries window knows (map_list without_dead groups) (λ index group there.
    (index, without_dead group, slice_get-map without_dead groups index ∙ ap (option_map without_dead) there, refl))

pub IsSound-without_dead : (old : ShardState) → IsSound old → IsSound (record old { groups = map_list without_dead old.groups })
IsSound-without_dead old sound = record {
  ascending = λ low high a b less at_low at_high.
      let x = before-map without_dead old.groups low a at_low in
      let y = before-map without_dead old.groups high b at_high in
      rw (heads a x.0 x.2, heads b y.0 y.2) (sound.ascending low high x.0 y.0 less x.1 y.1);
  groups = AreSoundGroups-map without_dead IsSoundGroup-without_dead old.groups sound.groups;
  once = λ id. omega (arith, times-without_dead id old.groups, sound.once id);
  limit = rw (length-map old.groups (without_dead {Closed = _})) sound.limit;
  serials = λ index place group span there own.
      let before = before-map without_dead old.groups index group there.0 in
      let was = before-without_dead before.0 place span (ap (λ (g : GroupState). slice_get (spans_of g) place) before.2 ∙ there.1) in
      sound.serials index was.0 before.0 span (before.1, was.1) own;
  opened = sound.opened;
  span_limit = sound.span_limit;
  gens = sound.gens;
  none_left = λ ended. ap (map_list without_dead) (sound.none_left ended);
}

pub HasGuestRoom-without_dead : (groups : List GroupState) (onto : Option SpanId) (more room : ℕ) → HasGuestRoom groups onto more room → HasGuestRoom (map_list without_dead groups) onto more room
HasGuestRoom-without_dead groups onto more room has head named index group here = search (rules, before-map, heads, length-live)

-- a list of groups of which those below a place have lost such guests

was_below : (at : ℕ) (groups : List GroupState) (index : ℕ) (group : GroupState) → slice_get (changed_below without_dead at groups) index ≡ Some group
    → (was : GroupState) × (slice_get groups index ≡ Some was) × (group.head.id ≡ was.head.id)
was_below zero groups index group there = (group, there, refl)
was_below (suc at) [] index group there = absurd cc
was_below (suc at) (first ∷ groups) zero group there = (first, refl, ap (λ (g : GroupState). g.head.id) (sym (same_some there)))
was_below (suc at) (first ∷ groups) (suc index) group there = was_below at groups index group there

pub Ascend-changed_below : (at : ℕ) (groups : List GroupState) → Ascend groups → Ascend (changed_below without_dead at groups)
Ascend-changed_below at groups ascend low high a b less at_low at_high = search (rules, was_below)

-- no id stands twice among the guests of a group
pub guests_once : (groups : List GroupState) → ((id : SpanId) → times id (spans_in groups) ≤ 1) → (index : ℕ) (group : GroupState)
    → slice_get groups index ≡ Some group → (id : SpanId) → times id group.guests ≤ 1
guests_once groups once index group here id =
    let p = λ (s : SpanState). same_span s.id id in
    omega (arith, once id, count-spans_remove spans_of p groups index group here, count-cons p group.head group.guests)

-- and if none stands twice at all, no guest is a head
pub no_head-guest : (groups : List GroupState) → ((id : SpanId) → times id (spans_in groups) ≤ 1) → (index place : ℕ) (group : GroupState) (guest : SpanState)
    → slice_get groups index ≡ Some group → slice_get group.guests place ≡ Some guest → HasNoHead groups guest.id
no_head-guest groups once index place group guest here there other found at =
    let p = λ (s : SpanState). same_span s.id guest.id in
    let head : p found.head ≡ true = test_from_same_id found.head.id guest.id at.head_is in
    let mine = count-some p group.guests place guest there (test_from_same_id guest.id guest.id refl) in
    let all = count-spans_remove spans_of p groups index group here in
    let own = count-cons p group.head group.guests in
    let most = once guest.id in
    elim (cases_eq other index) [
      | inl same ↦
          let one : found ≡ group = same_some (sym at.here ∙ ap (slice_get groups) same ∙ here) in
          let first : cond {A = ℕ} (p group.head) 1 0 ≡ 1 = ap (λ (b : Bool). cond {A = ℕ} b 1 0) (ap (λ (g : GroupState). p g.head) (sym one) ∙ head) in
          omega (arith, mine, all, own, most, first)
      | inr apart ↦
          let left = after-remove groups index other found at.here apart in
          let more = count-stands spans_of p (remove groups index) left.0 0 found found.head (left.1, refl) head in
          omega (arith, mine, all, own, most, more)
    ]
