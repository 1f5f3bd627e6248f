-- A set and a free change one span of a group: it keeps its id, its class and its greatest generation, and no slot of it comes to life.
use Rattle.std.proofs.Common.{zero, suc, ◌≡◌, ℕ, true, refl, sym, ap, ◌∙◌, Option, Some, None, set, slice_get, IsSome}
use Rattle.std.specs.FinSet.{contains, contains-remove}
use Rattle.std.specs.Cmp.{nat_cmp_total}
use Rattle.std.proofs.lemmas.Bool.{and_parts}
use Rattle.bitmap.specs.Slots.{SlotSet}
use Rattle.span.specs.declared.key.Key.{Key}
use Rattle.span.specs.Log.{Holds, Value, live_slots}
use Rattle.span.specs.State.{SpanState}
use Rattle.span.proofs.Slots.{live_slots-free, live_slots-set}
use Rattle.page.specs.Words.{Words}
use Rattle.shard.specs.Calls.{Frees, Sets}
use Rattle.shard.specs.Group.{GroupState}
use Rattle.shard.specs.State.{ShardState}
use Rattle.shard.specs.declared.shard.Freed.TheVariants as freed
use Rattle.shard.specs.declared.shard.replacing.Replaced.TheVariants as replaced
use Rattle.groups.specs.Group.{spans_of, with_span}
use Rattle.groups.specs.Pages.{set_group, with_object}
use Rattle.groups.specs.Spans.{with_free, with_set}
use Rattle.groups.proofs.Standing.{spans_of-with_span}
use Rattle.pool.specs.Calls.{Frees as FreesPooled, Sets as SetsPooled}
use Rattle.pool.specs.Sound.{IsSound as IsSoundPool}
use Rattle.pool.specs.State.{PoolState, PooledState}
use Rattle.pool.proofs.Freed.{groups-Leaves}
use Rattle.pool.proofs.Released.{has_page_if_held}

-- no slot more than the other set has
abbrev pub IsWithin : SlotSet → SlotSet → Type 0
IsWithin now before = (slot : ℕ) → contains now slot ≡ true → contains before slot ≡ true

-- the span is as it was, save for what its slots hold, of which some may hold nothing now
pub record IsSame (span now : SpanState) : Type 0 where
  pub id_is : now.id ≡ span.id
  pub class_is : now.class ≡ span.class
  pub gens_is : now.gens ≡ span.gens
  pub slots : IsWithin (live_slots now.log) (live_slots span.log)

IsSame-free : (span : SpanState) (key : Key) → IsSame span (with_free span key)
IsSame-free span key = record {
  id_is = refl;
  class_is = refl;
  gens_is = refl;
  slots = λ slot live. (and_parts _ _
      (sym (contains-remove nat_cmp_total (live_slots span.log) key.slot slot)
      ∙ ap (λ s. contains s slot) (sym (live_slots-free span.log key.slot key.generation)) ∙ live)).1;
}

IsSame-set : (span : SpanState) (key : Key) (value : Value) → Holds span.log key.slot key.generation → IsSame span (with_set span key value)
IsSame-set span key value holds = record {
  id_is = refl;
  class_is = refl;
  gens_is = refl;
  slots = λ slot live. ap (λ s. contains s slot) (sym (live_slots-set span.log key.slot key.generation value holds)) ∙ live;
}

-- the group with another span at the place keeps its page
keeps_page : (group : GroupState) (place : ℕ) (span : SpanState) → record (with_span group place span) { page = group.page } ≡ with_span group place span
keeps_page group zero span = refl
keeps_page group (suc place) span = refl

-- in a shard, one span of one group gives way to another, and all else but the objects on its page is as it was
pub record ChangesSpan (before after : ShardState) : Type 0 where
  pub index : ℕ
  pub place : ℕ
  pub group : GroupState
  pub span : SpanState
  pub now : SpanState
  pub page : Option Words
  pub still_paged : IsSome group.page → IsSome page
  pub group_is : slice_get before.groups index ≡ Some group
  pub span_is : slice_get (spans_of group) place ≡ Some span
  pub same : IsSame span now
  pub after_is : after ≡ record before { groups = set before.groups index (record (with_span group place now) { page = page }) }

pub ChangesSpan-Frees : (before after : ShardState) (key : Key) (at : ℕ) → Frees before key (freed.Yes at) after → ChangesSpan before after
ChangesSpan-Frees before after key at (index, place, group, span, here, holds, at_is, after_is) = record {
  index = index;
  place = place;
  group = group;
  span = span;
  now = with_free span key;
  page = group.page;
  still_paged = λ some. some;
  group_is = here.group_is;
  span_is = here.span_is;
  same = IsSame-free span key;
  after_is = after_is ∙ ap (λ (g : GroupState). record before { groups = set before.groups index g }) (sym (keeps_page group place (with_free span key)));
}

pub ChangesSpan-Sets : (before after : ShardState) (key : Key) (value : Value) (at : ℕ) → Sets before key value (replaced.Yes at) after → ChangesSpan before after
ChangesSpan-Sets before after key value at (index, place, group, span, here, settable, at_is, after_is) = record {
  index = index;
  place = place;
  group = group;
  span = span;
  now = with_set span key value;
  page = with_object group.page span.class key.slot value;
  still_paged = λ some. refl;
  group_is = here.group_is;
  span_is = here.span_is;
  same = IsSame-set span key value settable.0;
  after_is = after_is;
}

-- in the pool, one span of one group gives way to another; the group may lose its page by it, and the pool knows of a plan as before
pub record ChangesPooled (before after : PoolState) : Type 0 where
  pub index : ℕ
  pub place : ℕ
  pub group : PooledState
  pub group_now : PooledState
  pub span : SpanState
  pub now : SpanState
  pub group_is : slice_get before.groups index ≡ Some group
  pub span_is : slice_get (spans_of group) place ≡ Some span
  pub same : IsSame span now
  pub spans_are : spans_of group_now ≡ set (spans_of group) place now
  pub groups_are : after.groups ≡ set before.groups index group_now
  pub no_page : group.page ≡ None → group_now.page ≡ None
  pub has_plan_is : after.has_plan ≡ before.has_plan

pub ChangesPooled-Frees : (before after : PoolState) (key : Key) (at : ℕ) → IsSoundPool before → FreesPooled before key (freed.Yes at) after → ChangesPooled before after
ChangesPooled-Frees before after key at sound (index, place, group, span, here, holds, at_is, leaves) = record {
  index = index;
  place = place;
  group = group;
  group_now = changed.0;
  span = span;
  now = with_free span key;
  group_is = here.group_is;
  span_is = here.span_is;
  same = IsSame-free span key;
  spans_are = changed.2;
  groups_are = changed.1;
  no_page = λ none. absurd (paged none);
  has_plan_is = ap (λ (p : PoolState). p.has_plan) leaves.after;
}
  where
    changed : (now : PooledState) × (after.groups ≡ set before.groups index now) × (spans_of now ≡ set (spans_of group) place (with_free span key))
    changed = groups-Leaves before after index place group (with_free span key) leaves

    paged : group.page ≡ None → ⊥
    paged none = has_page_if_held before sound index place group span key.slot key.generation here.group_is here.span_is holds none

pub ChangesPooled-Sets : (before after : PoolState) (key : Key) (value : Value) (at : ℕ) → IsSoundPool before → SetsPooled before key value (replaced.Yes at) after → ChangesPooled before after
ChangesPooled-Sets before after key value at sound (index, place, group, span, here, settable, at_is, after_is) = record {
  index = index;
  place = place;
  group = group;
  group_now = set_group group place span key.slot key.generation value;
  span = span;
  now = with_set span key value;
  group_is = here.group_is;
  span_is = here.span_is;
  same = IsSame-set span key value settable.0;
  spans_are = spans_of-with_span group place (with_set span key value);
  groups_are = ap (λ (p : PoolState). p.groups) after_is;
  no_page = λ none. absurd (has_page_if_held before sound index place group span key.slot key.generation here.group_is here.span_is settable.0 none);
  has_plan_is = ap (λ (p : PoolState). p.has_plan) after_is;
}
