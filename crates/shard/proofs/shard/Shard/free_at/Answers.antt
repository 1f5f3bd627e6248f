use Rattle.std.proofs.Common.{◌+◌, ◌*◌, ◌/◌, ◌%◌, ◌≡◌, ◌∙◌, ℕ, Some, slice_get, List, ap, arith, set, sym, subst, refl, inl, inr}
use Rattle.std.proofs.lemmas.Bool.{true≢false}
use Rattle.std.proofs.lemmas.Option.{slice_get_within}
use Rattle.span.specs.Log.{Holds}
use Rattle.shard.specs.Group.{GroupState, HasNoRoomIn}
use Rattle.groups.specs.Group.{IsHere, with_span}
use Rattle.groups.specs.Spans.{with_free}
use Rattle.shard.specs.Kept.{state_of}
use Rattle.shard.specs.Rooms.{room_of, rooms_of}
use Rattle.shard.specs.Sound.{IsSound}
use Rattle.shard.specs.State.{ShardState}
use Rattle.shard.specs.declared.shard.Freed.TheVariants.{No, Yes}
use Rattle.shard.proofs.Here.{found_in, here_read, read_is}
use Rattle.groups.proofs.Lists.{set-same}
use Rattle.shard.proofs.Classes.{cases_class, class-with_span}
use Rattle.shard.proofs.GroupWords.{HasNoRoomIn-freed}
use Rattle.shard.proofs.ReplacedGroup.{IsSound-free}
use Rattle.shard.proofs.RoomBits.{HasRooms-free, HasRooms-other}
use Rattle.shard.proofs.ShownLogs.{IsSound-Frees, shown-Frees, was_freed-Frees}
use Rattle.groups.proofs.ReplacedGroups.{AreAlike-with_span}
use Rattle.shard.proofs.KeptGroups.{IsKept-replaced, IsKept-same}
use Rattle.shard.proofs.shard.Shard.free_at.Goals as goal

-- the span stands where it was found
here_now : (g : _) (c : goal.After-insert g) → IsHere c.self.inside.groups.items c.args.key.now.span c.args.index c.args.place c.index_mut-group.result.now c.span_at.result.now
here_now g c =
    let found = found_in c.args.self.now.groups c.self.inside.groups.items c.args.key.now.span c.args.index c.args.place
    (ap (λ (s : ShardState). s.groups) (sym c.self.view_is)) c.requires in
    here_read _ _ _ _ found.0 found.1 found.2 c.index_mut-group.result.now c.index_mut-group.ensures.value c.span_at.result.now c.span_at.ensures

-- a key that is not live leaves the groups as they were
groups_same : (groups : List GroupState) (index : ℕ) (group after : GroupState) → slice_get groups index ≡ Some group → after ≡ group → set groups index after ≡ groups
groups_same groups index group after here same = ap (set groups index) same ∙ set-same groups index group here

pub invariant_of-self : goal.invariant_of-self
invariant_of-self g c =
    let found = found_in c.args.self.now.groups c.self.inside.groups.items c.args.key.now.span c.args.index c.args.place
    (ap (λ (s : ShardState). s.groups) (sym c.self.view_is)) c.requires in
    let read = read_is _ _ _ _ found.0 found.1 found.2 c.index_mut-group.result.now c.index_mut-group.ensures.value in
    IsKept-same c.self.inside c.self.invariant _ c.self.inside.rooms
    (groups_same c.self.inside.groups.items c.args.index c.index_mut-group.result.now c.free.new.self read (c.if-not-free.ensures {u = tt}).unknown)
    (omega arith) c.self.invariant.rooms (λ class. omega arith)

pub returns-then-not-free-clause-step : goal.returns-then-not-free-clause-step
returns-then-not-free-clause-step g c =
    let found = found_in c.args.self.now.groups c.self.inside.groups.items c.args.key.now.span c.args.index c.args.place
    (ap (λ (s : ShardState). s.groups) (sym c.self.view_is)) c.requires in
    let here = here_read _ _ _ _ found.0 found.1 found.2 c.index_mut-group.result.now c.index_mut-group.ensures.value c.span_at.result.now c.span_at.ensures in
    let same = groups_same c.self.inside.groups.items c.args.index c.index_mut-group.result.now c.free.new.self here.group_is (c.if-not-free.ensures {u = tt}).unknown in (
      c.args.index,
      c.args.place,
      c.index_mut-group.result.now,
      c.span_at.result.now,
      subst (λ (s : ShardState). IsHere s.groups c.args.key.now.span c.args.index c.args.place c.index_mut-group.result.now c.span_at.result.now) c.self.view_is here,
      (λ holds. true≢false (sym (((c.if-not-free.ensures {u = tt}).found c.span_at.result.now c.span_at.ensures).1 holds))),
      c.changes-at.ensures,
      ap (λ (groups : List GroupState). record (state_of c.self.inside) { groups = groups }) same ∙ c.self.view_is,
    )

pub returns-then-not-free-clause-found : goal.returns-then-not-free-clause-found
returns-then-not-free-clause-found g c = was_freed-Frees c.args.self.now _ c.args.key.now (No c.changes-at.result) (subst IsSound c.self.view_is c.self.invariant.sound) (returns-then-not-free-clause-step g c)

pub insert-requires : goal.insert-requires
insert-requires g c =
    let found = found_in c.args.self.now.groups c.self.inside.groups.items c.args.key.now.span c.args.index c.args.place
    (ap (λ (s : ShardState). s.groups) (sym c.self.view_is)) c.requires in
    let here = here_read _ _ _ _ found.0 found.1 found.2 c.index_mut-group.result.now c.index_mut-group.ensures.value c.span_at.result.now c.span_at.ensures in
    let low = slice_get_within c.self.inside.groups.items c.args.index c.index_mut-group.result.now here.group_is in
    let freed = (c.if-not-free.ensures {u = tt}).freed c.span_at.result.now c.span_at.ensures in
    let same = c.class-class.ensures ∙ ap (λ (g : GroupState). g.head.class) freed
    ∙ class-with_span c.index_mut-group.result.now c.args.place c.span_at.result.now (with_free c.span_at.result.now c.args.key.now) here.span_is refl in
    omega (
      arith,
      low,
      c.self.invariant.room_for_rooms c.args.index c.index_mut-group.result.now here.group_is,
      ap (room_of c.self.inside.rooms) same,
    )

freed_now : (g : _) (c : goal.After-insert g) → c.free.new.self ≡ with_span c.index_mut-group.result.now c.args.place (with_free c.span_at.result.now c.args.key.now)
freed_now g c = (c.if-not-free.ensures {u = tt}).freed c.span_at.result.now c.span_at.ensures

-- the key was live
held : (g : _) (c : goal.After-insert g) → Holds c.span_at.result.now.log c.args.key.now.slot c.args.key.now.generation
held g c = ((c.if-not-free.ensures {u = tt}).found c.span_at.result.now c.span_at.ensures).0 refl

-- the number is that of the slot's word in the group
number_here : (g : _) (c : goal.After-insert g) → (4 * c.args.index + c.from.result) / 4 ≡ c.args.index
number_here g c = omega (arith, c.from.ensures)

word_here : (g : _) (c : goal.After-insert g) → (4 * c.args.index + c.from.result) % 4 ≡ c.args.key.now.slot / 64
word_here g c = omega (arith, c.from.ensures)

pub invariant_of-self-2 : goal.invariant_of-self-2
invariant_of-self-2 g c =
    let here = here_now g c in
    let kept = c.self.invariant in
    let group = c.index_mut-group.result.now in
    let place = c.args.place in
    let span = c.span_at.result.now in
    let key = c.args.key.now in
    IsKept-replaced c.self.inside kept _ c.insert.new.self c.clear_byte.new.least (omega (arith, c.clear_byte.ensures.len)) c.args.index group (with_span group place (with_free span key)) here.group_is
    (AreAlike-with_span group place span (with_free span key) here.span_is refl)
    (class-with_span group place span (with_free span key) here.span_is refl)
    (ap (set c.self.inside.groups.items c.args.index) (freed_now g c))
    refl
    (IsSound-free (state_of c.self.inside) kept.sound c.args.index group here.group_is place span here.span_is key (held g c))
    (λ class. rw (← freed_now g c) (elim (cases_class class c.class-class.result) [
      | inl same ↦ rw (same, c.insert.ensures.this)
          (HasRooms-free c.class-class.result c.self.inside.groups.items (rooms_of c.self.inside.rooms c.class-class.result)
          (kept.rooms c.class-class.result) c.args.index c.free.new.self group here.group_is
          (ap (λ (g : GroupState). g.head.class) (freed_now g c) ∙ class-with_span group place span (with_free span key) here.span_is refl) (sym c.class-class.ensures) _ (number_here g c)
          (λ word other none. subst (λ (g : GroupState). HasNoRoomIn c.self.inside.slot_limit c.class-class.result g word) (sym (freed_now g c))
          (HasNoRoomIn-freed group span key.slot key.generation place here.span_is (kept.sound.groups c.args.index group here.group_is).apart (held g c) c.self.inside.slot_limit c.class-class.result word
          (λ e. other (e ∙ sym (word_here g c))) none)))
      | inr apart ↦ rw (c.insert.ensures.others class apart)
          (HasRooms-other class c.self.inside.groups.items (rooms_of c.self.inside.rooms class) (kept.rooms class) c.args.index c.free.new.self group here.group_is
          (ap (λ (g : GroupState). g.head.class) (freed_now g c) ∙ class-with_span group place span (with_free span key) here.span_is refl) (λ e. apart (sym e ∙ sym c.class-class.ensures)))
    ]))
    (λ class. omega (arith, c.insert.ensures.room class))
    (c.clear_byte.ensures.known c.self.inside.groups.items (with_span group place (with_free span key)) kept.least_known)

pub returns-clause-step : goal.returns-clause-step
returns-clause-step g c = (
  c.args.index,
  c.args.place,
  c.index_mut-group.result.now,
  c.span_at.result.now,
  subst (λ (s : ShardState). IsHere s.groups c.args.key.now.span c.args.index c.args.place c.index_mut-group.result.now c.span_at.result.now) c.self.view_is (here_now g c),
  held g c,
  c.changes-at.ensures,
  rw (← c.self.view_is, freed_now g c) refl,
)

pub returns-clause-found : goal.returns-clause-found
returns-clause-found g c = was_freed-Frees c.args.self.now _ c.args.key.now (Yes c.changes-at.result) (subst IsSound c.self.view_is c.self.invariant.sound) (returns-clause-step g c)

pub returns-clause-plain : goal.returns-clause-plain
returns-clause-plain g c = shown-Frees c.args.self.now _ c.args.key.now (Yes c.changes-at.result) (subst IsSound c.self.view_is c.self.invariant.sound) (returns-clause-step g c)

pub returns-clause-sound : goal.returns-clause-sound
returns-clause-sound g c = IsSound-Frees c.args.self.now _ c.args.key.now (Yes c.changes-at.result) (subst IsSound c.self.view_is c.self.invariant.sound) (returns-clause-step g c)

pub clear_byte-requires : goal.clear_byte-requires
clear_byte-requires g c =
    let found = found_in c.args.self.now.groups c.self.inside.groups.items c.args.key.now.span c.args.index c.args.place
    (ap (λ (s : ShardState). s.groups) (sym c.self.view_is)) c.requires in
    let here = here_read _ _ _ _ found.0 found.1 found.2 c.index_mut-group.result.now c.index_mut-group.ensures.value c.span_at.result.now c.span_at.ensures in
    omega (arith, slice_get_within c.self.inside.groups.items c.args.index c.index_mut-group.result.now here.group_is, c.self.invariant.room_for_bytes)
