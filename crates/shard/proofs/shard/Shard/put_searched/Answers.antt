use Rattle.std.proofs.Common.{◌/◌, ◌%◌, rules, refl, ◌≡◌, ◌∙◌, ◌<◌, ◌≤◌, ◌⊎◌, ap, arith, inl, inr, length, set, subst, sym}
use Rattle.std.specs.Prelude.{Err}
use Rattle.std.proofs.lemmas.Result.{err_from_is_err_and}
use Rattle.groups.proofs.Lists.{same_some}
use Rattle.groups.proofs.Maps.{at_err}
use Rattle.span.specs.State.{SpanState}
use Rattle.shard.specs.Calls.{IsFull, Puts, PutsInNew}
use Rattle.groups.specs.Pages.{put_group}
use Rattle.shard.specs.Group.{GroupState, HasNoRoomIn, IsLowestUsableIn}
use Rattle.shard.specs.Kept.{state_of}
use Rattle.shard.specs.Rooms.{rooms_of}
use Rattle.shard.specs.Sound.{IsSound}
use Rattle.shard.specs.State.{ShardState}
use Rattle.shard.proofs.KeptGroups.{IsKept-same}
use Rattle.shard.proofs.GroupWords.{HasNoRoomIn-none, HasNoRoomIn-usable}
use Rattle.shard.proofs.PutFirst.{group_here, IsKept-passed, IsKept-put_full, Puts-first, set-kept}
use Rattle.shard.proofs.RoomBits.{IsFull-empty, len-remove_lt}
use Rattle.shard.proofs.ShownLogs.{is_issued-Puts, IsSound-Puts, shown-Puts}
use Rattle.shard.proofs.shard.Shard.put_searched.Goals.{then-len-self-via-then-len-self, then-len-self-via-else-len-self+then-self-2}
use Rattle.shard.proofs.shard.Shard.put_searched.Goals as goal

pub loop-number-init : goal.loop-number-init
loop-number-init g c = record { kept = c.self.invariant; same = c.self.view_is }

pub index_mut-group-requires : goal.index_mut-group-requires
index_mut-group-requires g c =
    let within = (c.loop-number.invariant.kept.rooms c.args.class).within c.in-Some.number c.in-Some.ensures.lowest.inside in
    omega (arith, within)

-- memory was refused, and the group is as it was
pub invariant_of-self : goal.invariant_of-self
invariant_of-self g c =
    let s = c.loop-number.self-inside in
    let kept = c.loop-number.invariant.kept in
    let group = c.index_mut-group.result.now in
    let here = group_here s c.loop-number.invariant.kept c.args.class c.in-Some.number group c.in-Some.ensures.lowest c.index_mut-group.ensures.value in
    IsKept-same s kept _ s.rooms (set-kept s.groups.items (c.in-Some.number / 4) group c.put.new.self here (c.in_err-key.ensures {u = tt}).err)
    (omega arith) kept.rooms (λ class. omega arith)

pub returns-in_err-key-clause-err : goal.returns-in_err-key-clause-err
returns-in_err-key-clause-err g c =
    let s = c.loop-number.self-inside in
    let group = c.index_mut-group.result.now in
    let here = group_here s c.loop-number.invariant.kept c.args.class c.in-Some.number group c.in-Some.ensures.lowest c.index_mut-group.ensures.value in
    at_err c.from_residual.result
    (ap (λ groups. record (state_of s) { groups = groups })
    (set-kept s.groups.items (c.in-Some.number / 4) group c.put.new.self here (c.in_err-key.ensures {u = tt}).err)
    ∙ c.loop-number.invariant.same)

pub returns-in_err-key-clause-sound : goal.returns-in_err-key-clause-sound
returns-in_err-key-clause-sound g c = (invariant_of-self g c).sound

pub returns-in_err-key-clause-spent : goal.returns-in_err-key-clause-spent
returns-in_err-key-clause-spent g c =
    let s = c.loop-number.self-inside in
    let group = c.index_mut-group.result.now in
    let here = group_here s c.loop-number.invariant.kept c.args.class c.in-Some.number group c.in-Some.ensures.lowest c.index_mut-group.ensures.value in
    let refused = err_from_is_err_and c.from_residual.result c.from_residual.ensures.1 in (
      (λ e. absurd (let spent = sym e ∙ refused.1 in search rules)),
      λ spent. absurd ((c.in_err-key.ensures {u = tt}).room
          (HasNoRoomIn-none c.loop-number.self-inside.slot_limit c.args.class group (c.in-Some.number % 4) (subst (λ (shard : ShardState). IsFull shard.slot_limit c.args.class shard.groups) (sym c.loop-number.invariant.same) spent.1.0 (c.in-Some.number / 4) group here))),
    )

-- the group took the put, and leaves the set where it is full then
pub remove_if-requires : goal.remove_if-requires
remove_if-requires g c = c.in-Some.ensures.in_room

pub invariant_of-self-in-Some-2 : goal.invariant_of-self-in-Some-2
invariant_of-self-in-Some-2 g c =
    let s = c.loop-number.self-inside in
    let kept = c.loop-number.invariant.kept in
    let group = c.index_mut-group.result.now in
    let key = c.in-Some-2.field-0.key in
    let made = c.in_ok-key.ensures {u = tt} in
    let here = group_here s c.loop-number.invariant.kept c.args.class c.in-Some.number group c.in-Some.ensures.lowest c.index_mut-group.ensures.value in
    let usable : IsLowestUsableIn c.loop-number.self-inside.slot_limit c.args.class group (c.in-Some.number % 4) key.slot = rw c.in-Some-2.is at made.slot in
    let put : c.put.new.self ≡ put_group group c.args.class key.slot c.args.words.now = rw c.in-Some-2.is at made.ok in
    IsKept-put_full s kept c.args.class c.in-Some.number group here c.in-Some.ensures.lowest key c.args.words.now usable c.requires
    _ (ap (set s.groups.items (c.in-Some.number / 4)) put) refl
    c.remove_if.new.self c.in-Some-2.field-0.is_full (λ full. subst (λ (g : GroupState). HasNoRoomIn c.loop-number.self-inside.slot_limit c.args.class g (c.in-Some.number % 4)) put ((rw c.in-Some-2.is at made.full) full))
    c.remove_if.ensures.this c.remove_if.ensures.others c.remove_if.ensures.room

puts : (g : _) (c : goal.After-remove_if g)
    → Puts c.args.self.now c.args.class c.args.words.now c.in-Some-2.field-0.key c.changes-at.result
    (record (state_of c.loop-number.self-inside) { groups = set c.loop-number.self-inside.groups.items (c.in-Some.number / 4) c.put.new.self })
puts g c =
    let s = c.loop-number.self-inside in
    let kept = c.loop-number.invariant.kept in
    let group = c.index_mut-group.result.now in
    let key = c.in-Some-2.field-0.key in
    let made = c.in_ok-key.ensures {u = tt} in
    let named = rw c.in-Some-2.is at made.key in
    let here = group_here s c.loop-number.invariant.kept c.args.class c.in-Some.number group c.in-Some.ensures.lowest c.index_mut-group.ensures.value in
    Puts-first s kept c.args.class c.in-Some.number group here c.in-Some.ensures.lowest key c.args.words.now (rw c.in-Some-2.is at made.slot)
    c.args.self.now c.loop-number.invariant.same (ap (λ (s : ShardState). s.ended) (sym c.self.view_is) ∙ c.if-self.false) named.0 named.1
    c.changes-at.result (c.changes-at.ensures ∙ ap (λ (span : SpanState). length span.log) (sym (same_some c.span_at.ensures)))
    c.put.new.self (rw c.in-Some-2.is at made.ok)

sound_here : (g : _) (c : goal.After-remove_if g) → IsSound c.args.self.now
sound_here g c = subst IsSound c.self.view_is c.self.invariant.sound

pub returns-in-Some-2-clause-ok : goal.returns-in-Some-2-clause-ok
returns-in-Some-2-clause-ok g c = puts g c

pub returns-in-Some-2-clause-fresh : goal.returns-in-Some-2-clause-fresh
returns-in-Some-2-clause-fresh g c =
    is_issued-Puts c.args.self.now _ c.args.class c.args.words.now c.requires c.in-Some-2.field-0.key c.changes-at.result (sound_here g c) (puts g c)

pub returns-in-Some-2-clause-plain : goal.returns-in-Some-2-clause-plain
returns-in-Some-2-clause-plain g c =
    shown-Puts c.args.self.now _ c.args.class c.args.words.now c.requires c.in-Some-2.field-0.key c.changes-at.result (sound_here g c) (puts g c)

pub returns-in-Some-2-clause-sound : goal.returns-in-Some-2-clause-sound
returns-in-Some-2-clause-sound g c = (invariant_of-self-in-Some-2 g c).sound

pub returns-in-Some-2-clause-spent : goal.returns-in-Some-2-clause-spent
returns-in-Some-2-clause-spent g c =
    let s = c.loop-number.self-inside in
    let group = c.index_mut-group.result.now in
    let usable : IsLowestUsableIn c.loop-number.self-inside.slot_limit c.args.class group (c.in-Some.number % 4) c.in-Some-2.field-0.key.slot = rw c.in-Some-2.is at (c.in_ok-key.ensures {u = tt}).slot in
    let here = group_here s c.loop-number.invariant.kept c.args.class c.in-Some.number group c.in-Some.ensures.lowest c.index_mut-group.ensures.value in (
      (λ e. absurd (search rules)),
      λ spent. absurd (HasNoRoomIn-usable c.args.class group (c.in-Some.number % 4) c.in-Some-2.field-0.key.slot usable
          (HasNoRoomIn-none c.loop-number.self-inside.slot_limit c.args.class group (c.in-Some.number % 4) (subst (λ (shard : ShardState). IsFull shard.slot_limit c.args.class shard.groups) (sym c.loop-number.invariant.same) spent.1.0 (c.in-Some.number / 4) group here))),
    )

-- the group has no usable slot
pub loop-number-smaller : goal.loop-number-smaller
loop-number-smaller g c =
    rw c.remove.ensures.this (len-remove_lt (rooms_of c.loop-number.self-inside.rooms c.args.class) c.in-Some.number c.in-Some.ensures.lowest.inside)

pub loop-number-preserved : goal.loop-number-preserved
loop-number-preserved g c =
    let s = c.loop-number.self-inside in
    let kept = c.loop-number.invariant.kept in
    let group = c.index_mut-group.result.now in
    let made = c.in_ok-key.ensures {u = tt} in
    let here = group_here s c.loop-number.invariant.kept c.args.class c.in-Some.number group c.in-Some.ensures.lowest c.index_mut-group.ensures.value in
    let none : HasNoRoomIn c.loop-number.self-inside.slot_limit c.args.class group (c.in-Some.number % 4) = rw c.in_default-2.is at made.slot in
    let back = set-kept s.groups.items (c.in-Some.number / 4) group c.put.new.self here (rw c.in_default-2.is at made.ok) in
    record {
      kept = IsKept-passed s kept c.args.class c.in-Some.number group here _ back refl none c.remove.new.self c.remove.ensures.this c.remove.ensures.others
          c.remove.ensures.room;
      same = ap (λ groups. record (state_of s) { groups = groups }) back ∙ c.loop-number.invariant.same;
    }

-- no group has room
pub invariant_of-self-then-len-self : goal.invariant_of-self-then-len-self
invariant_of-self-then-len-self g c = c.loop-number.invariant.kept

pub returns-then-len-self-clause-sound : goal.returns-then-len-self-clause-sound
returns-then-len-self-clause-sound g c = c.loop-number.invariant.kept.sound

pub returns-then-len-self-clause-err : goal.returns-then-len-self-clause-err
returns-then-len-self-clause-err g c = c.loop-number.invariant.same

pub returns-then-len-self-clause-spent : goal.returns-then-len-self-clause-spent
returns-then-len-self-clause-spent g c =
    let s = c.loop-number.self-inside in
    let same = c.loop-number.invariant.same in
    let full : IsFull s.slot_limit c.args.class s.groups.items =
    IsFull-empty c.args.class s.groups.items (rooms_of s.rooms c.args.class) (c.loop-number.invariant.kept.rooms c.args.class) c.in_default.ensures.lowest in
    let spent : (c.args.self.now.page_limit ≤ length c.args.self.now.groups)
    ⊎ (c.args.self.now.span_limit ≤ c.args.self.now.opened) = elim c.then-len-self.branch [
      | then-len-self-via-then-len-self w ↦ inl
          (subst (λ (s : ShardState). s.page_limit ≤ length s.groups) same (omega (arith, w.if-len-self, c.len.ensures)))
      | then-len-self-via-else-len-self+then-self-2 w ↦ inr (subst (λ (s : ShardState). s.span_limit ≤ s.opened) same (omega (arith, w.if-self-2)))
    ] in (
      (λ e. (
        ap (λ (s : ShardState). s.ended) (sym c.self.view_is) ∙ c.if-self.false,
        (subst (λ (s : ShardState). IsFull s.slot_limit c.args.class s.groups) same full, spent),
      )),
      λ e. refl,
    )

-- a new span is opened
pub invariant_of-self-2 : goal.invariant_of-self-2
invariant_of-self-2 g c = c.loop-number.invariant.kept

pub put_in_new-requires-clause-full : goal.put_in_new-requires-clause-full
put_in_new-requires-clause-full g c =
    IsFull-empty c.args.class c.loop-number.self-inside.groups.items (rooms_of c.loop-number.self-inside.rooms c.args.class)
    (c.loop-number.invariant.kept.rooms c.args.class) c.in_default.ensures.lowest

pub put_in_new-requires-clause-running : goal.put_in_new-requires-clause-running
put_in_new-requires-clause-running g c = ap (λ (s : ShardState). s.ended) (c.loop-number.invariant.same ∙ sym c.self.view_is) ∙ c.if-self.false

-- memory was refused, and the shard is as it was
pub returns-in_err-key-2-clause-spent : goal.returns-in_err-key-2-clause-spent
returns-in_err-key-2-clause-spent g c =
    let same = c.loop-number.invariant.same in
    let s = c.loop-number.self-inside in
    let refused = err_from_is_err_and c.from_residual-in_err-key-2.result c.from_residual-in_err-key-2.ensures.1 in
    let only = (c.in_err-key-2.ensures {u = tt}).only in (
      (λ e. absurd (let spent = sym e ∙ (refused.1 ∙ ap Err (refused.2 ∙ only)) in search rules)),
      λ spent. absurd (elim spent.1.1 [
        | inl pages ↦ let few : length c.args.self.now.groups < c.args.self.now.page_limit =
            subst (λ (s : ShardState). length s.groups < s.page_limit) same (omega (arith, c.if-len-self.false, c.len.ensures)) in omega (arith, pages, few)
        | inr spans ↦ let few : c.args.self.now.opened < c.args.self.now.span_limit =
            subst (λ (s : ShardState). s.opened < s.span_limit) same (omega (arith, c.if-self-2.false)) in omega (arith, spans, few)
      ]),
    )

-- the first slot of the new span took the put
new_one : (g : _) (c : goal.In_ok-key-2 g) → Puts c.args.self.now c.args.class c.args.words.now c.in_ok-key-2.key 0 c.put_in_new.new.self
new_one g c =
    let s = c.loop-number.self-inside in
    let same = c.loop-number.invariant.same in
    let full : IsFull s.slot_limit c.args.class s.groups.items =
    IsFull-empty c.args.class s.groups.items (rooms_of s.rooms c.args.class) (c.loop-number.invariant.kept.rooms c.args.class) c.in_default.ensures.lowest in (
      ap (λ (s : ShardState). s.ended) (sym c.self.view_is) ∙ c.if-self.false,
      inr (
        subst (λ (s : ShardState). IsFull s.slot_limit c.args.class s.groups) same full,
        subst (λ (s : ShardState). length s.groups < s.page_limit) same (omega (arith, c.if-len-self.false, c.len.ensures)),
        subst (λ (s : ShardState). s.opened < s.span_limit) same (omega (arith, c.if-self-2.false)),
        subst (λ (s : ShardState). PutsInNew s c.args.class c.args.words.now c.in_ok-key-2.key 0 c.put_in_new.new.self) same
            (c.in_ok-key-2.ensures {u = tt}).ok,
      ),
    )

new_few : (g : _) (c : goal.In_ok-key-2 g)
    → (length c.args.self.now.groups < c.args.self.now.page_limit) × (c.args.self.now.opened < c.args.self.now.span_limit)
new_few g c =
    let s = c.loop-number.self-inside in
    let same = c.loop-number.invariant.same in (
      subst (λ (s : ShardState). length s.groups < s.page_limit) same (omega (arith, c.if-len-self.false, c.len.ensures)),
      subst (λ (s : ShardState). s.opened < s.span_limit) same (omega (arith, c.if-self-2.false)),
    )

sound_new : (g : _) (c : goal.In_ok-key-2 g) → IsSound c.args.self.now
sound_new g c = subst IsSound c.self.view_is c.self.invariant.sound

pub returns-clause-ok : goal.returns-clause-ok
returns-clause-ok g c = new_one g c

pub returns-clause-fresh : goal.returns-clause-fresh
returns-clause-fresh g c =
    is_issued-Puts c.args.self.now _ c.args.class c.args.words.now c.requires c.in_ok-key-2.key 0 (sound_new g c) (new_one g c)

pub returns-clause-plain : goal.returns-clause-plain
returns-clause-plain g c =
    shown-Puts c.args.self.now _ c.args.class c.args.words.now c.requires c.in_ok-key-2.key 0 (sound_new g c) (new_one g c)

pub returns-clause-sound : goal.returns-clause-sound
returns-clause-sound g c =
    IsSound-Puts c.args.self.now _ c.args.class c.args.words.now c.requires c.in_ok-key-2.key 0 (sound_new g c) (new_one g c)

pub returns-clause-spent : goal.returns-clause-spent
returns-clause-spent g c = (
  (λ e. absurd (search rules)),
  λ spent. absurd (elim spent.1.1 [
    | inl pages ↦ omega (arith, pages, (new_few g c).0)
    | inr spans ↦ omega (arith, spans, (new_few g c).1)
  ]),
)
