-- The page of a group, of which it may have none.
use Rattle.std.proofs.Common.{zero, suc, ◌≡◌, ℕ, ◌<◌, ◌∙◌, Bool, true, false, if◌then◌else◌, List, length, Option, None, Some, is_some, slice_get, ap, subst, sym, refl, inl, inr, arith, rules}
use Rattle.std.specs.Bool.{OnFalse, OnTrue}
use Rattle.std.specs.Prelude.{◌↔◌, Err, IfOk, IsSome, IsTrue, Ok, OnErr, Result, unwrap_or}
use Rattle.std.proofs.lemmas.Bool.{false≢true}
use Rattle.bitmap.specs.Slots.{SlotSet}
use Rattle.bitmap.specs.declared.bits.Vacancy.{Vacancy}
use Rattle.span.specs.Classes.{slots_in, width_of}
use Rattle.span.specs.Log.{Value}
use Rattle.span.specs.State.{IsSettable, SpanState}
use Rattle.span.specs.declared.class.Class.{Class}
use Rattle.page.specs.Words.{IsInObjects, IsPageOf, PageState, Takes, Words, blank_page, copied, page_of, set_object}
use Rattle.page.proofs.Zeros.{page_there, words_of-page_of}
use Rattle.groups.specs.Pages.{set_group, with_object, words_of}
use Rattle.groups.specs.Sound.{IsSoundGroup}
use Rattle.groups.specs.Spans.{HasAllIn, IsVacantIn, SpansState, all_spans, taken, with_free_at, with_set_at, with_span_at}
use Rattle.groups.specs.Whole.{WholeState, whole_with}
use Rattle.groups.proofs.Lists.{same_some, there_at}
use Rattle.groups.proofs.SetGroups.{fits_page}
use Rattle.groups.proofs.StoredObjects.{paged_if_held}
use Rattle.shard.specs.Group.{group_of}
use Rattle.shard.specs.Moves.{joined}

-- a group on its way that has a page, in its parts
pub whole_there : (whole : WholeState) (spans : SpansState) (page : Option Words) → whole ≡ whole_with spans page → IsSome whole.words → whole ≡ whole_with spans (Some (words_of page))
whole_there whole spans page parts there = parts ∙ ap (whole_with spans) (page_there page (subst (λ (w : WholeState). IsSome w.words) parts there))

-- the page of a group after a put: it is there, with the object on its words
pub page_put : (is_paged : Bool) (words now : Words) (class : Class) (slot : ℕ) (object : List ℕ) → (is_paged ≡ false → words ≡ blank_page)
    → now ≡ set_object words class slot object → page_of true now ≡ with_object (page_of is_paged words) class slot object
page_put is_paged words now class slot object none set = ap Some (set ∙ ap (λ (w : Words). set_object w class slot object) (sym (words_of-page_of is_paged words none)))

-- and after a set, of which it is known that it is there
pub page_set : (is_paged : Bool) (words now : Words) (class : Class) (slot : ℕ) (object : List ℕ) → IsSome (page_of is_paged words)
    → now ≡ set_object words class slot object → page_of is_paged now ≡ with_object (page_of is_paged words) class slot object
page_set true words now class slot object there set = ap Some set
page_set false words now class slot object there set = absurd (false≢true there)

-- what is taken at a slot is taken at the first
pub Takes-first : (page : PageState) (class : Class) (slot : ℕ) (object : List ℕ) → Takes page class slot object → Takes page class 0 object
Takes-first page class slot object (inl reaches) = inl (omega (arith, reaches))
Takes-first page class slot object (inr zeros) = inr zeros

-- what a group with a page keeps of it
pub IsPageOf-paged : (class : Class) (is_paged : Bool) (page : PageState) → IsInObjects class page.room → is_paged ≡ true → IsPageOf class is_paged page
IsPageOf-paged class is_paged page whole paged = record { whole = whole; none = λ none. absurd (false≢true (sym none ∙ paged)) }

-- the words of a page that takes those of another over, or becomes it
pub page_joined : (is_paged : Bool) (words others now : Words) (class : Class) (slots : SlotSet) → (is_paged ≡ true → now ≡ copied words class slots others) → (is_paged ≡ false → now ≡ others)
    → now ≡ joined (page_of is_paged words) class slots others
page_joined true words others now class slots paged none = paged refl
page_joined false words others now class slots paged none = none refl

-- a set in a group: the slot is on its page, and the object is one of its class
module _ (spans : SpansState) (page : Option Words) (closed : Bool) (sound : IsSoundGroup (group_of spans page closed)) (place : ℕ) (within : place < length (all_spans spans))
    (slot generation : ℕ) (value : Value) where
  pub set_there : (span : SpanState) × (slice_get (all_spans spans) place ≡ Some span)
  set_there = there_at (all_spans spans) place within

  module _ (done : Bool) (is_done : done ≡ true) (found : (span : SpanState) → slice_get (all_spans spans) place ≡ Some span → IsTrue done ↔ IsSettable span slot generation value) where
    pub set_fits : (slot < slots_in spans.head.class) × (length value ≡ width_of spans.head.class)
    set_fits = fits_page (group_of spans page closed) sound place set_there.0 set_there.1 slot generation value ((found set_there.0 set_there.1).0 is_done)

    pub set_paged : IsSome page
    set_paged = paged_if_held (group_of spans page closed) sound place set_there.0 slot generation set_there.1 ((found set_there.0 set_there.1).0 is_done).0

-- a group of which a span and the page changed
set_in_group : (spans new : SpansState) (page now : Option Words) (closed : Bool) (place : ℕ) (span : SpanState) (slot generation : ℕ) (value : Value)
    → new ≡ with_span_at spans place (with_set_at span slot generation value) → now ≡ with_object page span.class slot value
    → group_of new now closed ≡ set_group (group_of spans page closed) place span slot generation value
set_in_group spans new page now closed zero span slot generation value new_is now_is = λ i. group_of (new_is i) (now_is i) closed
set_in_group spans new page now closed (suc place) span slot generation value new_is now_is = λ i. group_of (new_is i) (now_is i) closed

-- where a set was done, on a page that is there
pub set_on_page : (spans new : SpansState) (words now : Words) (is_paged closed : Bool) → IsSome (page_of is_paged words) → (place : ℕ) (span : SpanState) (slot generation : ℕ) (value : Value)
    → new ≡ with_span_at spans place (with_set_at span slot generation value) → now ≡ set_object words span.class slot value
    → group_of new (page_of is_paged now) closed ≡ set_group (group_of spans (page_of is_paged words) closed) place span slot generation value
set_on_page spans new words now is_paged closed there place span slot generation value new_is now_is =
    set_in_group spans new (page_of is_paged words) (page_of is_paged now) closed place span slot generation value new_is (page_set is_paged words now span.class slot value there now_is)

-- the head's class stays where a span of the same class stands in the place of another
pub class_kept : (spans new : SpansState) (place : ℕ) (span after : SpanState) → after.class ≡ span.class → slice_get (all_spans spans) place ≡ Some span
    → new ≡ with_span_at spans place after → new.head.class ≡ spans.head.class
class_kept spans new zero span after same here is = ap (λ (s : SpansState). s.head.class) is ∙ same ∙ ap (λ (s : SpanState). s.class) (sym (same_some here))
class_kept spans new (suc place) span after same here is = ap (λ (s : SpansState). s.head.class) is

-- what a group keeps of its page stays with a free
pub IsPageOf-freed : (spans new : SpansState) (is_paged : Bool) (page : PageState) (place slot generation : ℕ) → place < length (all_spans spans) → IsPageOf spans.head.class is_paged page
    → (done : Bool) → ((span : SpanState) → slice_get (all_spans spans) place ≡ Some span → OnTrue done (new ≡ with_span_at spans place (with_free_at span slot generation)))
    → OnFalse done (new ≡ spans) → IsPageOf new.head.class is_paged page
IsPageOf-freed spans new is_paged page place slot generation within kept true freed unknown =
    let there = there_at (all_spans spans) place within in
    subst (λ (class : Class). IsPageOf class is_paged page) (sym (class_kept spans new place there.0 (with_free_at there.0 slot generation) refl there.1 (freed there.0 there.1))) kept
IsPageOf-freed spans new is_paged page place slot generation within kept false freed unknown =
    subst (λ (class : Class). IsPageOf class is_paged page) (ap (λ (s : SpansState). s.head.class) (sym unknown)) kept

-- a word with a slot for a put is not full
pub not_full : (slot_limit : ℕ) (spans : SpansState) (word : ℕ) (found : Vacancy) → IsVacantIn slot_limit spans word found → HasAllIn slot_limit spans.head.class (taken spans) word → ⊥
not_full slot_limit spans word found vacant full = false≢true (sym vacant.1.outside ∙ full found.slot vacant.1.in_word vacant.0)

-- what a set did for which the page may have grown
module _ (spans new : SpansState) (is_paged : Bool) (page now : PageState) (place : ℕ) (span : SpanState) (slot generation : ℕ) (value : Value)
    (paged : IsSettable span slot generation value → is_paged ≡ true) where
  abbrev Found : Bool → Type 0
  Found done = IsTrue done ↔ IsSettable span slot generation value

  abbrev Sets : Bool → Type 0
  Sets done = OnTrue done (new ≡ with_span_at spans place (with_set_at span slot generation value))

  abbrev Writes : Bool → Type 0
  Writes done = OnTrue done (now.words ≡ set_object page.words span.class slot value)

  -- the page is still one of the group's
  pub IsPageOf-grown : {E : Type 0} → slice_get (all_spans spans) place ≡ Some span → span.class ≡ spans.head.class → IsPageOf spans.head.class is_paged page → IsInObjects span.class now.room
      → (result : Result Bool E) → IfOk result Found → IfOk result Sets → IfOk result (λ done. OnFalse done (new ≡ spans)) → IfOk result (λ done. OnFalse done (now.words ≡ page.words))
      → OnErr result (new ≡ spans) → OnErr result (now.words ≡ page.words) → IsPageOf new.head.class is_paged now
  IsPageOf-grown here class_is kept whole (Ok true) found sets unknown same err same_err = record {
    whole = subst (λ (class : Class). IsInObjects class now.room) (class_is ∙ sym (class_kept spans new place span (with_set_at span slot generation value) refl here sets)) whole;
    none = λ none. absurd (false≢true (sym none ∙ paged (found.0 refl)));
  }
  IsPageOf-grown here class_is kept whole (Ok false) found sets unknown same err same_err = record {
    whole = subst (λ (class : Class). IsInObjects class now.room) (class_is ∙ ap (λ (s : SpansState). s.head.class) (sym unknown)) whole;
    none = λ none. same ∙ kept.none none;
  }
  IsPageOf-grown here class_is kept whole (Err e) found sets unknown same err same_err = record {
    whole = subst (λ (class : Class). IsInObjects class now.room) (class_is ∙ ap (λ (s : SpansState). s.head.class) (sym err)) whole;
    none = λ none. same_err ∙ kept.none none;
  }

  -- and where the set was done it has the object
  pub set_grown : {E : Type 0} (closed : Bool) (result : Result Bool E) → IfOk result Found → IfOk result Sets → IfOk result Writes
      → IfOk result (λ done. OnTrue done (group_of new (page_of is_paged now.words) closed ≡ set_group (group_of spans (page_of is_paged page.words) closed) place span slot generation value))
  set_grown closed (Ok true) found sets writes =
      set_on_page spans new page.words now.words is_paged closed (subst (λ b. IsSome (page_of b page.words)) (sym (paged (found.0 refl))) refl) place span slot generation value sets writes
  set_grown closed (Ok false) found sets writes = tt
  set_grown closed (Err e) found sets writes = tt

pub where_true : {X : Type 0} (b : Bool) → b ≡ true → OnTrue b X → X
where_true true on x = x
where_true false on x = absurd (false≢true on)
