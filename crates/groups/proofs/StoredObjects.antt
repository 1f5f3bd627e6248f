-- The objects of a sound group are on its page, and a group with a live key has one.
use Rattle.std.proofs.Common.{◌≡◌, ℕ, ◌<◌, true, Option, None, Some, MatchOption, is_some, slice_get, ◌∙◌, ap, sym, subst, refl}
use Rattle.std.specs.Prelude.{IsSome}
use Rattle.std.specs.FinMap as map
use Rattle.std.specs.FinSet.{contains, contains-empty, empty}
use Rattle.std.specs.Ordering.{nat_cmp}
use Rattle.std.proofs.lemmas.Bool.{false≢true}
use Rattle.span.proofs.Keeping.{live-if_held}
use Rattle.span.proofs.OfClass.{Fits-replay}
use Rattle.span.proofs.Slots.{contains-live_slots}
use Rattle.span.specs.Classes.{slots_in}
use Rattle.span.specs.Log.{Held, Holds, Value, live_slots, replay}
use Rattle.span.specs.State.{SpanState}
use Rattle.span.specs.declared.class.Class.{Class}
use Rattle.page.specs.Words.{Words, object_in, set_object}
use Rattle.page.proofs.Words.{object_in-set_object_other}
use Rattle.groups.specs.Group.{Group, spans_of}
use Rattle.groups.specs.Pages.{object_at, words_of}
use Rattle.groups.specs.Sound.{AreStored, IsSoundGroup}
use Rattle.groups.specs.Spans.{union_of}
use Rattle.groups.proofs.Unions.{member_of_union}

module _ {Closed : Type 0} (group : Group Closed) (sound : IsSoundGroup group) (place : ℕ) (span : SpanState) (here : slice_get (spans_of group) place ≡ Some span) (slot : ℕ) where
  -- a slot of a group with no live slot is not live
  pub none_live : union_of (spans_of group) ≡ empty → contains (live_slots span.log) slot ≡ true → ⊥
  none_live none live = false≢true (sym (contains-empty nat_cmp slot) ∙ ap (λ slots. contains slots slot) (sym none) ∙ member_of_union (spans_of group) place span slot here live)

  module _ (held : Held) (is : map.get (replay span.log) slot ≡ Some held) where
    -- a live slot's object is on the page, and so there is one
    pub stored_on : (words : Words) × (group.page ≡ Some words) × (object_at group.page span.class slot ≡ held.value)
    stored_on = by_page group.page refl sound.page
      where
        by_page : (page : Option Words) → group.page ≡ page → MatchOption page (union_of (spans_of group) ≡ empty) (AreStored (spans_of group))
            → (words : Words) × (page ≡ Some words) × (object_at page span.class slot ≡ held.value)
        by_page None page none = absurd (none_live none (contains-live_slots span.log slot ∙ ap is_some is))
        by_page (Some words) page stored = (words, refl, stored place span here slot held is)

    pub stored_in : object_at group.page span.class slot ≡ held.value
    stored_in = stored_on.2

-- what a span of the group holds at another slot than one that is written over stays on the page
pub stored_other : {Closed : Type 0} (group : Group Closed) (sound : IsSoundGroup group) (class : Class) (class_is : group.head.class ≡ class) (slot : ℕ) (value : Value)
    (place : ℕ) (span : SpanState) → slice_get (spans_of group) place ≡ Some span → (q : ℕ) (held : Held) → map.get (replay span.log) q ≡ Some held
    → (q ≡ slot → ⊥) → object_in (set_object (words_of group.page) class slot value) span.class q ≡ held.value
stored_other group sound class class_is slot value place span here q held is other =
    let its = sound.classes place span here in
    let same : span.class ≡ class = its.class_is ∙ class_is in
    let low : q < slots_in class = subst (λ c. q < slots_in c) class_is (Fits-replay group.head.class span.log its.of_class q held is).0 in
    let then : object_at group.page class q ≡ held.value = subst (λ c. object_at group.page c q ≡ held.value) same (stored_in group sound place span here q held is) in
    subst (λ c. object_in (set_object (words_of group.page) class slot value) c q ≡ held.value) (sym same)
    (object_in-set_object_other (words_of group.page) class slot value q low other ∙ then)

-- a group with a live key has a page
module _ {Closed : Type 0} (group : Group Closed) (sound : IsSoundGroup group) (place : ℕ) (span : SpanState) (slot generation : ℕ)
    (there : slice_get (spans_of group) place ≡ Some span) (holds : Holds span.log slot generation) where
  pub page_if_held : (words : Words) × (group.page ≡ Some words)
  page_if_held = by_page group.page sound.page
    where
      by_page : (page : Option Words) → MatchOption page (union_of (spans_of group) ≡ empty) (AreStored (spans_of group)) → (words : Words) × (page ≡ Some words)
      by_page None none = absurd (none_live group sound place span there slot none (live-if_held span.log slot generation holds))
      by_page (Some words) stored = (words, refl)

  pub paged_if_held : IsSome group.page
  paged_if_held = ap is_some page_if_held.1
