-- A set in a group: it has a page, which the object fits, and it keeps its head.
use Rattle.std.proofs.Common.{zero, suc, ◌≡◌, ◌<◌, ◌↔◌, ℕ, Option, Bool, true, false, is_some, length, Some, slice_get, ap, sym, subst, ◌∙◌, refl, rules, Err, IfOk, IsSome, IsTrue, Ok, OnErr, Result, unwrap_or}
use Rattle.std.specs.Bool.{OnFalse, OnTrue}
use Rattle.span.proofs.OfClass.{Holds-on_page}
use Rattle.span.specs.Classes.{slots_in, width_of}
use Rattle.span.specs.Log.{IsOfClass, Value}
use Rattle.span.specs.State.{IsSettable, SpanState}
use Rattle.span.specs.declared.class.Class.{Class}
use Rattle.page.specs.Words.{PageState, Words, page_of, set_object}
use Rattle.groups.specs.Group.{spans_of}
use Rattle.groups.specs.Pages.{set_group, with_object}
use Rattle.groups.specs.Sound.{IsSoundGroup}
use Rattle.groups.specs.Spans.{IsSpanOf, SpansState, all_spans, with_set_at, with_span_at}
use Rattle.groups.proofs.Lists.{there_at}
use Rattle.groups.proofs.ReplacedGroups.{AreAlike-with_span, head-alike}
use Rattle.groups.proofs.StoredObjects.{paged_if_held}
use Rattle.shard.proofs.ZeroPages.{page_set}
use Rattle.pool.specs.Groups.{OnDone}
use Rattle.pool.specs.State.{PooledState, group_of}
use Rattle.std.proofs.lemmas.Bool.{OnTrue_at}

-- where a set is done, the group has a page, and the object fits it
module _ (spans : SpansState) (page : Option Words) (sound : IsSoundGroup (group_of spans page)) (place : ℕ) (within : place < length (all_spans spans))
    (slot generation : ℕ) (value : Value) where
  pub span_there : (span : SpanState) × (slice_get (all_spans spans) place ≡ Some span)
  span_there = there_at (all_spans spans) place within

  module _ (done : Bool) (is_done : done ≡ true) (found : (span : SpanState) → slice_get (all_spans spans) place ≡ Some span → IsTrue done ↔ IsSettable span slot generation value) where
    its : IsSpanOf spans.head.class span_there.0
    its = sound.classes place span_there.0 span_there.1

    settable : IsSettable span_there.0 slot generation value
    settable = (found span_there.0 span_there.1).0 is_done

    pub fits_page : (slot < slots_in spans.head.class) × (length value ≡ width_of spans.head.class)
    fits_page = subst (λ (c : Class). (slot < slots_in c) × (length value ≡ width_of c)) its.class_is
        (Holds-on_page span_there.0.class span_there.0.log slot generation (subst (λ (c : Class). IsOfClass c span_there.0.log) (sym its.class_is) its.of_class) settable.0, settable.1)

    pub page_to_set : IsSome page
    page_to_set = paged_if_held (group_of spans page) sound place span_there.0 slot generation span_there.1 settable.0

-- a group of which a span and the page changed
set_in_group : (spans new : SpansState) (page now : Option Words) (place : ℕ) (span : SpanState) (slot generation : ℕ) (value : Value)
    → new ≡ with_span_at spans place (with_set_at span slot generation value) → now ≡ with_object page span.class slot value
    → group_of new now ≡ set_group (group_of spans page) place span slot generation value
set_in_group spans new page now zero span slot generation value new_is now_is = λ i. group_of (new_is i) (now_is i)
set_in_group spans new page now (suc place) span slot generation value new_is now_is = λ i. group_of (new_is i) (now_is i)

-- where a set was done, on a page that is there
pub set_on_page : (spans new : SpansState) (words now : Words) (is_paged : Bool) → IsSome (page_of is_paged words) → (place : ℕ) (span : SpanState) (slot generation : ℕ) (value : Value)
    → new ≡ with_span_at spans place (with_set_at span slot generation value) → now ≡ set_object words span.class slot value
    → group_of new (page_of is_paged now) ≡ set_group (group_of spans (page_of is_paged words)) place span slot generation value
set_on_page spans new words now is_paged there place span slot generation value new_is now_is =
    set_in_group spans new (page_of is_paged words) (page_of is_paged now) place span slot generation value new_is (page_set is_paged words now span.class slot value there now_is)

-- a set for which the page may have grown: where it was done the page has the object
pub set_grown : {E : Type 0} (spans new : SpansState) (is_paged : Bool) (page now : PageState) (place : ℕ) (span : SpanState) (slot generation : ℕ) (value : Value)
    → (IsSettable span slot generation value → is_paged ≡ true) → (result : Result Bool E) → IfOk result (λ done. IsTrue done ↔ IsSettable span slot generation value)
    → IfOk result (λ done. OnTrue done (new ≡ with_span_at spans place (with_set_at span slot generation value)))
    → IfOk result (λ done. OnTrue done (now.words ≡ set_object page.words span.class slot value))
    → OnDone result (group_of new (page_of is_paged now.words) ≡ set_group (group_of spans (page_of is_paged page.words)) place span slot generation value)
set_grown spans new is_paged page now place span slot generation value paged (Ok true) found sets writes =
    set_on_page spans new page.words now.words is_paged (subst (λ b. IsSome (page_of b page.words)) (sym (paged (found.0 refl))) refl) place span slot generation value sets writes
set_grown spans new is_paged page now place span slot generation value paged (Ok false) found sets writes = tt
set_grown spans new is_paged page now place span slot generation value paged (Err e) found sets writes = tt

module _ (group : PooledState) (place : ℕ) (span : SpanState) (here : slice_get (spans_of group) place ≡ Some span) (slot generation : ℕ) (value : Value) where
  head-set_group : (set_group group place span slot generation value).head.id ≡ group.head.id
  head-set_group = head-alike group (set_group group place span slot generation value) (AreAlike-with_span group place span (with_set_at span slot generation value) here refl)

  -- the head's id after a set, done or not
  pub head-set : {E : Type 0} (r : Result Bool E) (now : PooledState) → IfOk r (λ done. OnTrue done (now ≡ set_group group place span slot generation value))
      → IfOk r (λ done. OnFalse done (now ≡ group)) → OnErr r (now ≡ group)
      → now.head.id ≡ group.head.id
  head-set (Ok true) now is stays err = ap (λ (g : PooledState). g.head.id) is ∙ head-set_group
  head-set (Ok false) now is stays err = ap (λ (g : PooledState). g.head.id) stays
  head-set (Err e) now is stays err = ap (λ (g : PooledState). g.head.id) err

-- it has a page only where it had one
pub paged-set : {E : Type 0} (group : PooledState) → IsSoundGroup group → (place : ℕ) (span : SpanState) → slice_get (spans_of group) place ≡ Some span
    → (slot generation : ℕ) (value : Value) (r : Result Bool E) (now : PooledState)
    → IfOk r (λ done. IsTrue done ↔ IsSettable span slot generation value) → IfOk r (λ done. OnFalse done (now ≡ group)) → OnErr r (now ≡ group) → IsSome now.page → IsSome group.page
paged-set group sound place span here slot generation value (Ok true) now found stays err paged = paged_if_held group sound place span slot generation here (found.0 refl).0
paged-set group sound place span here slot generation value (Ok false) now found stays err paged = subst (λ (g : PooledState). IsSome g.page) stays paged
paged-set group sound place span here slot generation value (Err e) now found stays err paged = subst (λ (g : PooledState). IsSome g.page) err paged
