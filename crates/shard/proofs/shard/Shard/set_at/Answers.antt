use Rattle.std.proofs.Common.{◌≡◌, ◌∙◌, Bool, Some, slice_get, List, ap, arith, set, sym, subst, refl, true, false, ℕ}
use Rattle.std.specs.Prelude.{Err, Ok, OnErr, Result}
use Rattle.std.specs.Bool.{OnTrue, OnFalse}
use Rattle.std.proofs.lemmas.Bool.{true≢false}
use Rattle.span.specs.State.{IsSettable}
use Rattle.shard.specs.Group.{GroupState}
use Rattle.groups.specs.Group.{IsHere}
use Rattle.groups.specs.Pages.{set_group}
use Rattle.groups.specs.Spans.{with_set_at}
use Rattle.shard.specs.Kept.{state_of}
use Rattle.shard.specs.Rooms.{rooms_of}
use Rattle.shard.specs.Sound.{IsSound}
use Rattle.shard.specs.State.{ShardState}
use Rattle.shard.specs.declared.shard.replacing.Replaced.TheVariants.{No, Yes}
use Rattle.shard.proofs.Classes.{class-with_span}
use Rattle.shard.proofs.Here.{found_in, here_read, index_within, place_within, read_is}
use Rattle.groups.proofs.Lists.{set-same}
use Rattle.shard.proofs.ReplacedGroup.{IsSound-set}
use Rattle.shard.proofs.RoomBits.{HasRooms-full}
use Rattle.shard.proofs.SetHere.{HasNoRoomIn-set}
use Rattle.groups.proofs.ShownChanges.{may_set-settable}
use Rattle.shard.proofs.ShownLogs.{IsSound-Sets, shown-Sets, was_replaced-Sets}
use Rattle.groups.proofs.ReplacedGroups.{AreAlike-with_span}
use Rattle.shard.proofs.KeptGroups.{IsKept-replaced, IsKept-same}
use Rattle.shard.proofs.LeastLive.{IsLeast-set}
use Rattle.groups.proofs.KnownLeast.{KnowsLeast-set}
use Rattle.shard.specs.Least.{IsLeast}
use Rattle.shard.proofs.shard.Shard.set_at.Goals as goal

done : (b : Bool) {P : Type 0} → b ≡ true → OnTrue b P → P
done true on p = p
done false on p = absurd cc

undone : (b : Bool) {P : Type 0} → b ≡ false → OnFalse b P → P
undone true off p = absurd cc
undone false off p = p

on_err : {A E : Type 0} (r : Result A E) {P : Type 0} → P → OnErr r P
on_err (Ok x) p = tt
on_err (Err e) p = p

-- a group that is as it was leaves the groups as they were
groups_same : (groups : List GroupState) (index : ℕ) (group after : GroupState) → slice_get groups index ≡ Some group → after ≡ group → set groups index after ≡ groups
groups_same groups index group after here same = ap (set groups index) same ∙ set-same groups index group here

pub index_mut-group-requires : goal.index_mut-group-requires
index_mut-group-requires g c =
    let found = found_in c.args.self.now.groups c.self.inside.groups.items c.args.key.now.span c.args.index c.args.place
    (ap (λ (s : ShardState). s.groups) (sym c.self.view_is)) c.requires in
    let low = index_within c.self.inside.groups.items c.args.key.now.span c.args.index c.args.place found.0 found.1 found.2 in
    omega (arith, low)

pub span_at-requires : goal.span_at-requires
span_at-requires g c =
    let found = found_in c.args.self.now.groups c.self.inside.groups.items c.args.key.now.span c.args.index c.args.place
    (ap (λ (s : ShardState). s.groups) (sym c.self.view_is)) c.requires in
    place_within _ _ _ _ found.0 found.1 found.2 c.index_mut-group.result.now c.index_mut-group.ensures.value

pub set-requires : goal.set-requires
set-requires g c =
    let found = found_in c.args.self.now.groups c.self.inside.groups.items c.args.key.now.span c.args.index c.args.place
    (ap (λ (s : ShardState). s.groups) (sym c.self.view_is)) c.requires in
    let read = read_is _ _ _ _ found.0 found.1 found.2 c.index_mut-group.result.now c.index_mut-group.ensures.value in
    record {
      place = place_within _ _ _ _ found.0 found.1 found.2 c.index_mut-group.result.now c.index_mut-group.ensures.value;
      sound = c.self.invariant.sound.groups c.args.index c.index_mut-group.result.now read;
    }

pub invariant_of-self : goal.invariant_of-self
invariant_of-self g c =
    let found = found_in c.args.self.now.groups c.self.inside.groups.items c.args.key.now.span c.args.index c.args.place
    (ap (λ (s : ShardState). s.groups) (sym c.self.view_is)) c.requires in
    let read = read_is _ _ _ _ found.0 found.1 found.2 c.index_mut-group.result.now c.index_mut-group.ensures.value in
    IsKept-same c.self.inside c.self.invariant _ c.self.inside.rooms
    (groups_same c.self.inside.groups.items c.args.index c.index_mut-group.result.now c.set.new.self read c.in_err-set.ensures.err)
    (omega arith) c.self.invariant.rooms (λ class. omega arith)

pub returns-in_err-set-clause-refused : goal.returns-in_err-set-clause-refused
returns-in_err-set-clause-refused g c =
    let found = found_in c.args.self.now.groups c.self.inside.groups.items c.args.key.now.span c.args.index c.args.place
    (ap (λ (s : ShardState). s.groups) (sym c.self.view_is)) c.requires in
    let here = subst (λ (s : ShardState). IsHere s.groups c.args.key.now.span c.args.index c.args.place c.index_mut-group.result.now c.span_at.result.now)
    c.self.view_is (here_read _ _ _ _ found.0 found.1 found.2 c.index_mut-group.result.now c.index_mut-group.ensures.value c.span_at.result.now
    c.span_at.ensures) in
    on_err c.from_residual.result (may_set-settable c.args.self.now.groups (subst IsSound c.self.view_is c.self.invariant.sound).groups (subst IsSound c.self.view_is c.self.invariant.sound).once c.args.key.now c.args.index
    c.args.place c.index_mut-group.result.now c.span_at.result.now here c.args.words.now
    (c.in_err-set.ensures.refused c.span_at.result.now c.span_at.ensures))

pub invariant_of-self-then-not-branch : goal.invariant_of-self-then-not-branch
invariant_of-self-then-not-branch g c =
    let found = found_in c.args.self.now.groups c.self.inside.groups.items c.args.key.now.span c.args.index c.args.place
    (ap (λ (s : ShardState). s.groups) (sym c.self.view_is)) c.requires in
    let read = read_is _ _ _ _ found.0 found.1 found.2 c.index_mut-group.result.now c.index_mut-group.ensures.value in
    IsKept-same c.self.inside c.self.invariant _ c.self.inside.rooms
    (groups_same c.self.inside.groups.items c.args.index c.index_mut-group.result.now c.set.new.self read
    (undone c.in_ok-set.field-0 c.if-not-branch.true c.in_ok-set.ensures.unknown)) (omega arith) c.self.invariant.rooms (λ class. omega arith)

pub returns-then-not-branch-clause-step : goal.returns-then-not-branch-clause-step
returns-then-not-branch-clause-step g c =
    let found = found_in c.args.self.now.groups c.self.inside.groups.items c.args.key.now.span c.args.index c.args.place
    (ap (λ (s : ShardState). s.groups) (sym c.self.view_is)) c.requires in
    let here = here_read _ _ _ _ found.0 found.1 found.2 c.index_mut-group.result.now c.index_mut-group.ensures.value c.span_at.result.now c.span_at.ensures in
    let same = groups_same c.self.inside.groups.items c.args.index c.index_mut-group.result.now c.set.new.self here.group_is
    (undone c.in_ok-set.field-0 c.if-not-branch.true c.in_ok-set.ensures.unknown) in (
      c.args.index,
      c.args.place,
      c.index_mut-group.result.now,
      c.span_at.result.now,
      subst (λ (s : ShardState). IsHere s.groups c.args.key.now.span c.args.index c.args.place c.index_mut-group.result.now c.span_at.result.now) c.self.view_is here,
      (λ settable. true≢false (sym ((c.in_ok-set.ensures.found c.span_at.result.now c.span_at.ensures).1 settable) ∙ c.if-not-branch.true)),
      c.changes-at.ensures,
      ap (λ (groups : List GroupState). record (state_of c.self.inside) { groups = groups }) same ∙ c.self.view_is,
    )

pub returns-then-not-branch-clause-found : goal.returns-then-not-branch-clause-found
returns-then-not-branch-clause-found g c = was_replaced-Sets c.args.self.now _ c.args.key.now c.args.words.now (No c.changes-at.result) (subst IsSound c.self.view_is c.self.invariant.sound) (returns-then-not-branch-clause-step g c)

set_now : (g : _) (c : goal.Else-not-branch g)
    → c.set.new.self ≡ set_group c.index_mut-group.result.now c.args.place c.span_at.result.now c.args.key.now.slot c.args.key.now.generation
    c.args.words.now
set_now g c = done c.in_ok-set.field-0 c.if-not-branch.false (c.in_ok-set.ensures.set c.span_at.result.now c.span_at.ensures)

settable_now : (g : _) (c : goal.Else-not-branch g) → IsSettable c.span_at.result.now c.args.key.now.slot c.args.key.now.generation c.args.words.now
settable_now g c = (c.in_ok-set.ensures.found c.span_at.result.now c.span_at.ensures).0 c.if-not-branch.false

here_now : (g : _) (c : goal.Else-not-branch g) → IsHere c.self.inside.groups.items c.args.key.now.span c.args.index c.args.place c.index_mut-group.result.now c.span_at.result.now
here_now g c =
    let found = found_in c.args.self.now.groups c.self.inside.groups.items c.args.key.now.span c.args.index c.args.place
    (ap (λ (s : ShardState). s.groups) (sym c.self.view_is)) c.requires in
    here_read _ _ _ _ found.0 found.1 found.2 c.index_mut-group.result.now c.index_mut-group.ensures.value c.span_at.result.now c.span_at.ensures

pub invariant_of-self-2 : goal.invariant_of-self-2
invariant_of-self-2 g c =
    let here = here_now g c in
    let kept = c.self.invariant in
    let group = c.index_mut-group.result.now in
    let place = c.args.place in
    let span = c.span_at.result.now in
    let key = c.args.key.now in
    let words = c.args.words.now in
    IsKept-replaced c.self.inside kept _ c.self.inside.rooms c.self.inside.least (omega arith) c.args.index group (set_group group place span key.slot key.generation words) here.group_is
    (AreAlike-with_span group place span (with_set_at span key.slot key.generation words) here.span_is refl)
    (class-with_span group place span (with_set_at span key.slot key.generation words) here.span_is refl)
    (ap (set c.self.inside.groups.items c.args.index) (set_now g c))
    refl
    (IsSound-set (state_of c.self.inside) kept.sound c.args.index group here.group_is place span here.span_is key.slot key.generation words (settable_now g c))
    (λ class. HasRooms-full class c.self.inside.groups.items (rooms_of c.self.inside.rooms class) (kept.rooms class) c.args.index
    (set_group group place span key.slot key.generation words) group here.group_is
    (class-with_span group place span (with_set_at span key.slot key.generation words) here.span_is refl)
    (HasNoRoomIn-set group span key.slot key.generation words place here.span_is (kept.sound.groups c.args.index group here.group_is).apart (settable_now g c) c.self.inside.slot_limit class))
    (λ class. omega arith)
    (KnowsLeast-set IsLeast c.self.inside.groups.items c.self.inside.least.items kept.least_known c.args.index group (set_group group place span key.slot key.generation words) here.group_is
    (IsLeast-set group (kept.sound.groups c.args.index group here.group_is) place span here.span_is key.slot key.generation words (settable_now g c).0))

pub returns-clause-step : goal.returns-clause-step
returns-clause-step g c = (
  c.args.index,
  c.args.place,
  c.index_mut-group.result.now,
  c.span_at.result.now,
  subst (λ (s : ShardState). IsHere s.groups c.args.key.now.span c.args.index c.args.place c.index_mut-group.result.now c.span_at.result.now) c.self.view_is (here_now g c),
  settable_now g c,
  c.changes-at.ensures,
  rw (← c.self.view_is, set_now g c) refl,
)

pub returns-clause-found : goal.returns-clause-found
returns-clause-found g c = was_replaced-Sets c.args.self.now _ c.args.key.now c.args.words.now (Yes c.changes-at.result) (subst IsSound c.self.view_is c.self.invariant.sound) (returns-clause-step g c)

pub returns-clause-plain : goal.returns-clause-plain
returns-clause-plain g c = shown-Sets c.args.self.now _ c.args.key.now c.args.words.now (Yes c.changes-at.result) (subst IsSound c.self.view_is c.self.invariant.sound) (returns-clause-step g c)

pub returns-clause-sound : goal.returns-clause-sound
returns-clause-sound g c = IsSound-Sets c.args.self.now _ c.args.key.now c.args.words.now (Yes c.changes-at.result) (subst IsSound c.self.view_is c.self.invariant.sound) (returns-clause-step g c)
