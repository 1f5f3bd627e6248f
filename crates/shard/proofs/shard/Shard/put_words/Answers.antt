use Rattle.std.proofs.Common.{◌/◌, ◌%◌, rules, refl, ◌≡◌, ◌∙◌, ◌↔◌, ℕ, IfOk, ap, arith, false, length, set, subst, sym}
use Rattle.std.specs.Prelude.{Err}
use Rattle.std.proofs.lemmas.Result.{err_from_is_err_and}
use Rattle.groups.proofs.Lists.{same_some}
use Rattle.groups.proofs.Maps.{at_err}
use Rattle.span.specs.PlainMap.{with_put}
use Rattle.span.specs.State.{SpanState}
use Rattle.span.specs.declared.key.Key.{Key}
use Rattle.shard.specs.Calls.{IsFull, IsSpent, Puts}
use Rattle.groups.specs.Pages.{put_group}
use Rattle.shard.specs.Group.{GroupState, HasNoRoomIn, IsLowestUsableIn}
use Rattle.shard.specs.Kept.{state_of}
use Rattle.shard.specs.Shown.{shown}
use Rattle.shard.specs.Sound.{IsSound}
use Rattle.shard.specs.State.{ShardState}
use Rattle.shard.specs.declared.error.PutError.TheVariants as PutError
use Rattle.shard.proofs.KeptGroups.{IsKept-same}
use Rattle.shard.proofs.GroupWords.{HasNoRoomIn-none, HasNoRoomIn-usable}
use Rattle.shard.proofs.PutFirst.{group_here, IsKept-put_full, Puts-first, set-kept}
use Rattle.shard.proofs.ShownLogs.{is_issued-Puts, shown-Puts}
use Rattle.shard.proofs.shard.Shard.put_words.Goals as goal

pub index_mut-group-requires : goal.index_mut-group-requires
index_mut-group-requires g c =
    let within = (c.self.invariant.rooms c.args.class).within c.in-Some.number c.in-Some.ensures.lowest.inside in
    omega (arith, within)

-- memory was refused, and the group is as it was
pub invariant_of-self : goal.invariant_of-self
invariant_of-self g c =
    let s = c.self.inside in
    let kept = c.self.invariant in
    let group = c.index_mut-group.result.now in
    let here = group_here s c.self.invariant c.args.class c.in-Some.number group c.in-Some.ensures.lowest c.index_mut-group.ensures.value in
    IsKept-same s kept _ s.rooms (set-kept s.groups.items (c.in-Some.number / 4) group c.put.new.self here (c.in_err-key.ensures {u = tt}).err)
    (omega arith) kept.rooms (λ class. omega arith)

pub returns-in_err-key-clause-err : goal.returns-in_err-key-clause-err
returns-in_err-key-clause-err g c =
    let s = c.self.inside in
    let group = c.index_mut-group.result.now in
    let here = group_here s c.self.invariant c.args.class c.in-Some.number group c.in-Some.ensures.lowest c.index_mut-group.ensures.value in
    at_err c.from_residual.result
    (ap (λ groups. record (state_of s) { groups = groups })
    (set-kept s.groups.items (c.in-Some.number / 4) group c.put.new.self here (c.in_err-key.ensures {u = tt}).err)
    ∙ c.self.view_is)

pub returns-in_err-key-clause-sound : goal.returns-in_err-key-clause-sound
returns-in_err-key-clause-sound g c = (invariant_of-self g c).sound

pub returns-in_err-key-clause-spent : goal.returns-in_err-key-clause-spent
returns-in_err-key-clause-spent g c =
    let s = c.self.inside in
    let group = c.index_mut-group.result.now in
    let here = group_here s c.self.invariant c.args.class c.in-Some.number group c.in-Some.ensures.lowest c.index_mut-group.ensures.value in
    let refused = err_from_is_err_and c.from_residual.result c.from_residual.ensures.1 in (
      (λ e. absurd (let spent = sym e ∙ refused.1 in search rules)),
      λ spent. absurd ((c.in_err-key.ensures {u = tt}).room
          (HasNoRoomIn-none c.self.inside.slot_limit c.args.class group (c.in-Some.number % 4) (subst (λ (shard : ShardState). IsFull shard.slot_limit c.args.class shard.groups) (sym c.self.view_is) spent.1.0 (c.in-Some.number / 4) group here))),
    )

-- the group took the put, and leaves the set where it is full then
pub remove_if-requires : goal.remove_if-requires
remove_if-requires g c = c.in-Some.ensures.in_room

pub invariant_of-self-2 : goal.invariant_of-self-2
invariant_of-self-2 g c =
    let s = c.self.inside in
    let kept = c.self.invariant in
    let group = c.index_mut-group.result.now in
    let key = c.in-Some-2.field-0.key in
    let made = c.in_ok-key.ensures {u = tt} in
    let here = group_here s c.self.invariant c.args.class c.in-Some.number group c.in-Some.ensures.lowest c.index_mut-group.ensures.value in
    let usable : IsLowestUsableIn c.self.inside.slot_limit c.args.class group (c.in-Some.number % 4) key.slot = rw c.in-Some-2.is at made.slot in
    let put : c.put.new.self ≡ put_group group c.args.class key.slot c.args.words.now = rw c.in-Some-2.is at made.ok in
    IsKept-put_full s kept c.args.class c.in-Some.number group here c.in-Some.ensures.lowest key c.args.words.now usable c.requires
    _ (ap (set s.groups.items (c.in-Some.number / 4)) put) refl
    c.remove_if.new.self c.in-Some-2.field-0.is_full (λ full. subst (λ (g : GroupState). HasNoRoomIn c.self.inside.slot_limit c.args.class g (c.in-Some.number % 4)) put ((rw c.in-Some-2.is at made.full) full))
    c.remove_if.ensures.this c.remove_if.ensures.others c.remove_if.ensures.room

puts : (g : _) (c : goal.After-remove_if g)
    → Puts c.args.self.now c.args.class c.args.words.now c.in-Some-2.field-0.key c.changes-at.result
    (record (state_of c.self.inside) { groups = set c.self.inside.groups.items (c.in-Some.number / 4) c.put.new.self })
puts g c =
    let s = c.self.inside in
    let kept = c.self.invariant in
    let group = c.index_mut-group.result.now in
    let key = c.in-Some-2.field-0.key in
    let made = c.in_ok-key.ensures {u = tt} in
    let named = rw c.in-Some-2.is at made.key in
    let here = group_here s c.self.invariant c.args.class c.in-Some.number group c.in-Some.ensures.lowest c.index_mut-group.ensures.value in
    Puts-first s kept c.args.class c.in-Some.number group here c.in-Some.ensures.lowest key c.args.words.now (rw c.in-Some-2.is at made.slot)
    c.args.self.now c.self.view_is (ap (λ (s : ShardState). s.ended) (sym c.self.view_is) ∙ c.if-self.false) named.0 named.1
    c.changes-at.result (c.changes-at.ensures ∙ ap (λ (span : SpanState). length span.log) (sym (same_some c.span_at.ensures)))
    c.put.new.self (rw c.in-Some-2.is at made.ok)

sound_here : (g : _) (c : goal.After-remove_if g) → IsSound c.args.self.now
sound_here g c = subst IsSound c.self.view_is c.self.invariant.sound

pub returns-clause-ok : goal.returns-clause-ok
returns-clause-ok g c = puts g c

pub returns-clause-fresh : goal.returns-clause-fresh
returns-clause-fresh g c =
    is_issued-Puts c.args.self.now _ c.args.class c.args.words.now c.requires c.in-Some-2.field-0.key c.changes-at.result (sound_here g c) (puts g c)

pub returns-clause-plain : goal.returns-clause-plain
returns-clause-plain g c =
    shown-Puts c.args.self.now _ c.args.class c.args.words.now c.requires c.in-Some-2.field-0.key c.changes-at.result (sound_here g c) (puts g c)

pub returns-clause-sound : goal.returns-clause-sound
returns-clause-sound g c = (invariant_of-self-2 g c).sound

pub returns-clause-spent : goal.returns-clause-spent
returns-clause-spent g c =
    let s = c.self.inside in
    let group = c.index_mut-group.result.now in
    let usable : IsLowestUsableIn c.self.inside.slot_limit c.args.class group (c.in-Some.number % 4) c.in-Some-2.field-0.key.slot = rw c.in-Some-2.is at (c.in_ok-key.ensures {u = tt}).slot in
    let here = group_here s c.self.invariant c.args.class c.in-Some.number group c.in-Some.ensures.lowest c.index_mut-group.ensures.value in (
      (λ e. absurd (search rules)),
      λ spent. absurd (HasNoRoomIn-usable c.args.class group (c.in-Some.number % 4) c.in-Some-2.field-0.key.slot usable
          (HasNoRoomIn-none c.self.inside.slot_limit c.args.class group (c.in-Some.number % 4) (subst (λ (shard : ShardState). IsFull shard.slot_limit c.args.class shard.groups) (sym c.self.view_is) spent.1.0 (c.in-Some.number / 4) group here))),
    )

-- the group takes none, and is as it was
pub invariant_of-self-in_default-2 : goal.invariant_of-self-in_default-2
invariant_of-self-in_default-2 g c =
    let s = c.self.inside in
    let kept = c.self.invariant in
    let group = c.index_mut-group.result.now in
    let here = group_here s kept c.args.class c.in-Some.number group c.in-Some.ensures.lowest c.index_mut-group.ensures.value in
    IsKept-same s kept _ s.rooms (set-kept s.groups.items (c.in-Some.number / 4) group c.put.new.self here (rw c.in_default-2.is at (c.in_ok-key.ensures {u = tt}).ok))
    (omega arith) kept.rooms (λ class. omega arith)

pub returns-in_default-2-clause-ok : goal.returns-in_default-2-clause-ok
returns-in_default-2-clause-ok g c =
    let s = c.self.inside in
    let group = c.index_mut-group.result.now in
    let here = group_here s c.self.invariant c.args.class c.in-Some.number group c.in-Some.ensures.lowest c.index_mut-group.ensures.value in
    let back = set-kept s.groups.items (c.in-Some.number / 4) group c.put.new.self here (rw c.in_default-2.is at (c.in_ok-key.ensures {u = tt}).ok) in
    subst (λ (old : ShardState). IfOk c.put_otherwise-in_default-2.result (λ (made : Key × ℕ). Puts old c.args.class c.args.words.now made.0 made.1 c.put_otherwise-in_default-2.new.self))
    (ap (λ groups. record (state_of s) { groups = groups }) back ∙ c.self.view_is) c.put_otherwise-in_default-2.ensures.ok

pub returns-in_default-2-clause-fresh : goal.returns-in_default-2-clause-fresh
returns-in_default-2-clause-fresh g c =
    let s = c.self.inside in
    let group = c.index_mut-group.result.now in
    let here = group_here s c.self.invariant c.args.class c.in-Some.number group c.in-Some.ensures.lowest c.index_mut-group.ensures.value in
    let back = set-kept s.groups.items (c.in-Some.number / 4) group c.put.new.self here (rw c.in_default-2.is at (c.in_ok-key.ensures {u = tt}).ok) in
    subst (λ (old : ShardState). IfOk c.put_otherwise-in_default-2.result (λ (made : Key × ℕ). (shown old).is_issued made.0 ≡ false))
    (ap (λ groups. record (state_of s) { groups = groups }) back ∙ c.self.view_is) c.put_otherwise-in_default-2.ensures.fresh

pub returns-in_default-2-clause-plain : goal.returns-in_default-2-clause-plain
returns-in_default-2-clause-plain g c =
    let s = c.self.inside in
    let group = c.index_mut-group.result.now in
    let here = group_here s c.self.invariant c.args.class c.in-Some.number group c.in-Some.ensures.lowest c.index_mut-group.ensures.value in
    let back = set-kept s.groups.items (c.in-Some.number / 4) group c.put.new.self here (rw c.in_default-2.is at (c.in_ok-key.ensures {u = tt}).ok) in
    subst (λ (old : ShardState). IfOk c.put_otherwise-in_default-2.result (λ (made : Key × ℕ). shown c.put_otherwise-in_default-2.new.self ≡ with_put (shown old) made.0 c.args.words.now))
    (ap (λ groups. record (state_of s) { groups = groups }) back ∙ c.self.view_is) c.put_otherwise-in_default-2.ensures.plain

pub returns-in_default-2-clause-spent : goal.returns-in_default-2-clause-spent
returns-in_default-2-clause-spent g c =
    let s = c.self.inside in
    let group = c.index_mut-group.result.now in
    let here = group_here s c.self.invariant c.args.class c.in-Some.number group c.in-Some.ensures.lowest c.index_mut-group.ensures.value in
    let back = set-kept s.groups.items (c.in-Some.number / 4) group c.put.new.self here (rw c.in_default-2.is at (c.in_ok-key.ensures {u = tt}).ok) in
    subst (λ (old : ShardState). (c.put_otherwise-in_default-2.result ≡ Err PutError.PagesSpent) ↔ ((old.ended ≡ false) × IsSpent c.args.class old))
    (ap (λ groups. record (state_of s) { groups = groups }) back ∙ c.self.view_is) c.put_otherwise-in_default-2.ensures.spent
