-- A group stays sound where one of its spans is set in place.
use Rattle.std.proofs.Common.{zero, suc, ◌≡◌, ℕ, ◌<◌, ◌++◌, ◌∷◌, [], length, Bool, true, false, IsTrue, ◌↔◌, List, Option, Some, None, IsSomeAnd, is_some, set, slice_get, ap, sym, subst, ◌∙◌, refl, inl, inr, eqb, eq-eqb, eqb-true, rules, if◌then◌else◌}
use Rattle.std.specs.Bool.{OnTrue, OnFalse}
use Rattle.std.specs.FinMap as map
use Rattle.std.specs.FinSet as finset
use Rattle.std.specs.FinSet.{contains}
use Rattle.std.proofs.lemmas.Bool.{cases_eq, false_from_ne_true, ne_eqb}
use Rattle.bitmap.specs.Slots.{SlotSet}
use Rattle.bitmap.specs.Operations.{AreDisjoint-at}
use Rattle.span.proofs.Keeping.{live-if_held}
use Rattle.span.specs.Classes.{slots_in, width_of}
use Rattle.span.specs.Log.{Held, Holds, IsLegal, IsOfClass, Value, live_slots, replay, value_if, value_in, worn_slots}
use Rattle.span.specs.PlainMap.{has_as_many}
use Rattle.span.specs.State.{IsSettable, SpanState}
use Rattle.span.specs.declared.change.Change.{Change}
use Rattle.span.specs.declared.change.Change.TheVariants.{Set}
use Rattle.span.specs.declared.class.Class.{Class}
use Rattle.span.proofs.Changes.{IsLegal-push, get-set}
use Rattle.span.proofs.OfClass.{Fits-replay, Holds-on_page, IsOfClass-push}
use Rattle.span.proofs.Slots.{contains-live_slots, worn_slots-set}
use Rattle.page.specs.Words.{Words, object_in, set_object}
use Rattle.page.proofs.Words.{object_in-set_object_same}
use Rattle.groups.specs.Group.{Group, spans_of}
use Rattle.groups.specs.Pages.{set_group, words_of}
use Rattle.groups.proofs.StoredObjects.{stored_other}
use Rattle.groups.specs.Sound.{IsSoundGroup, IsStored}
use Rattle.groups.specs.SpansKept.{IsKept}
use Rattle.groups.specs.Spans.{AreApart, IsSpanOf, SpansState, all_spans, union_of, with_set_at, with_span_at}
use Rattle.groups.proofs.Lists.{same_some, set-same}
use Rattle.groups.proofs.Standing.{AreSpansOf-with_span, cases-with_span, spans_of-with_span}
use Rattle.groups.proofs.Unions.{keep_held, member_of_union}

-- a slot is live in one of the spans alone
apart_at : (spans : List SpanState) (i j : ℕ) (a b : SpanState) (q : ℕ) → AreApart spans → slice_get spans i ≡ Some a → slice_get spans j ≡ Some b → (i ≡ j → ⊥)
    → contains (live_slots a.log) q ≡ true → contains (live_slots b.log) q ≡ true → ⊥
apart_at [] i j a b q apart at_i at_j differ in_a in_b = absurd cc
apart_at (first ∷ rest) zero zero a b q apart at_i at_j differ in_a in_b = differ refl
apart_at (first ∷ rest) zero (suc j) a b q apart at_i at_j differ in_a in_b = search (rules, AreDisjoint-at, same_some, member_of_union)
apart_at (first ∷ rest) (suc i) zero a b q apart at_i at_j differ in_a in_b =
    AreDisjoint-at (live_slots first.log) (union_of rest) apart.0 q (ap (λ (s : SpanState). contains (live_slots s.log) q) (same_some at_j) ∙ in_b) (member_of_union rest i a q at_i in_a)
apart_at (first ∷ rest) (suc i) (suc j) a b q apart at_i at_j differ in_a in_b = apart_at rest i j a b q apart.1 at_i at_j (λ e. differ (ap suc e)) in_a in_b

-- a set of a live slot to as many words as the class has is legal
pub IsLegal-set : (class : Class) (gens : ℕ) (log : List Change) (slot generation : ℕ) (value : Value) → IsLegal gens log → IsOfClass class log
    → Holds log slot generation → length value ≡ width_of class
    → IsLegal gens (log ++ Set slot generation value ∷ [])
IsLegal-set class gens log slot generation value legal of_class holds wide = IsLegal-push gens log _ legal (fits (map.get (replay log) slot) refl holds)
  where
    fits : (o : Option Held) → map.get (replay log) slot ≡ o → IsSomeAnd o (λ held. held.generation ≡ generation)
        → IsSomeAnd o (λ held. (held.generation ≡ generation) × (length held.value ≡ length value))
    fits None e h = absurd h
    fits (Some held) e h = (h, (Fits-replay class log of_class slot held e).1 ∙ sym wide)

-- a span may be set just where its log leaves a value of as many words
module _ (span : SpanState) (slot generation : ℕ) (value : Value) (of_class : IsOfClass span.class span.log) where
  pub has_as_many-settable : IsSettable span slot generation value → has_as_many value (value_in span.log slot generation) ≡ true
  has_as_many-settable settable = found (map.get (replay span.log) slot) refl settable.0
    where
      found : (o : Option Held) → map.get (replay span.log) slot ≡ o → IsSomeAnd o (λ held. held.generation ≡ generation) → has_as_many value (value_if generation o) ≡ true
      found None e h = absurd h
      found (Some held) e h = rw (eq-eqb held.generation generation h) (eq-eqb _ _ ((Fits-replay span.class span.log of_class slot held e).1 ∙ sym settable.1))

  pub settable-has_as_many : has_as_many value (value_in span.log slot generation) ≡ true → IsSettable span slot generation value
  settable-has_as_many may = found (map.get (replay span.log) slot) refl may
    where
      found : (o : Option Held) → map.get (replay span.log) slot ≡ o → has_as_many value (value_if generation o) ≡ true → IsSettable span slot generation value
      found None e h = absurd cc
      found (Some held) e h = by_test (eqb held.generation generation) refl h
        where
          by_test : (b : Bool) → eqb held.generation generation ≡ b → has_as_many value (if b then Some held.value else None) ≡ true → IsSettable span slot generation value
          by_test true same long = (
            subst (λ (o : Option Held). IsSomeAnd o (λ held. held.generation ≡ generation)) (sym e) (eqb-true held.generation generation same),
            sym (eqb-true _ _ long) ∙ (Fits-replay span.class span.log of_class slot held e).1,
          )
          by_test false same long = absurd cc

  pub has_as_many-not : (IsSettable span slot generation value → ⊥) → has_as_many value (value_in span.log slot generation) ≡ false
  has_as_many-not not = false_from_ne_true (has_as_many value (value_in span.log slot generation)) (λ may. not (settable-has_as_many may))

-- what is kept beside the spans stays so, whether the set was done or not
module _ (spans : SpansState) (occupied : SlotSet) (kept : IsKept spans occupied) (span : SpanState) (slot generation : ℕ) (value : Value) where
  kept_set : (place : ℕ) → slice_get (all_spans spans) place ≡ Some span → Holds span.log slot generation
      → IsKept (with_span_at spans place (with_set_at span slot generation value)) occupied
  kept_set zero here holds =
      let same = keep_held (all_spans spans) zero span slot generation value here holds kept.apart in
      record { occupied_is = kept.occupied_is ∙ sym same.0; apart = same.1 }
  kept_set (suc place) here holds =
      let same = keep_held (all_spans spans) (suc place) span slot generation value here holds kept.apart in
      record { occupied_is = kept.occupied_is ∙ sym same.0; apart = same.1 }

  kept_same : (place : ℕ) → slice_get (all_spans spans) place ≡ Some span → with_span_at spans place span ≡ spans
  kept_same place here = search (rules, same_some, set-same)

  pub IsKept-set : (place : ℕ) → slice_get (all_spans spans) place ≡ Some span → (done : Bool) (after : SpanState)
      → IsTrue done ↔ IsSettable span slot generation value → OnTrue done (after ≡ with_set_at span slot generation value) → OnFalse done (after ≡ span)
      → IsKept (with_span_at spans place after) occupied
  IsKept-set place here true after found is unknown =
      subst (λ (s : SpanState). IsKept (with_span_at spans place s) occupied) (sym is) (kept_set place here (found.0 refl).0)
  IsKept-set place here false after found is unknown = search (rules, kept_same)

module _ {Closed : Type 0} (group : Group Closed) (sound : IsSoundGroup group)
    (place : ℕ) (span : SpanState) (here : slice_get (spans_of group) place ≡ Some span) (slot generation : ℕ) (value : Value) (settable : IsSettable span slot generation value) where
  abbrev changed : SpanState
  changed = with_set_at span slot generation value

  abbrev after : Group Closed
  after = set_group group place span slot generation value

  abbrev page_now : Words
  page_now = set_object (words_of group.page) span.class slot value

  its : IsSpanOf group.head.class span
  its = sound.classes place span here

  of_class : IsOfClass span.class span.log
  of_class = subst (λ c. IsOfClass c span.log) (sym its.class_is) its.of_class

  on_page : slot < slots_in span.class
  on_page = Holds-on_page span.class span.log slot generation of_class settable.0

  -- the slot is on a page of the head's class, and the value has as many words as that has
  pub fits_page : (slot < slots_in group.head.class) × (length value ≡ width_of group.head.class)
  fits_page = subst (λ c. (slot < slots_in c) × (length value ≡ width_of c)) its.class_is (on_page, settable.1)

  -- what a span of the group holds at another slot stays
  stays_other : (at : ℕ) (other : SpanState) → slice_get (spans_of group) at ≡ Some other → (q : ℕ) (held : Held) → map.get (replay other.log) q ≡ Some held
      → (q ≡ slot → ⊥) → object_in page_now other.class q ≡ held.value
  stays_other = stored_other group sound span.class (sym its.class_is) slot value

  changed_now : IsStored page_now changed
  changed_now q held is = search (rules, cases_eq, get-set, eq-eqb, object_in-set_object_same, on_page, same_some, stays_other, ne_eqb)

  other_now : (at : ℕ) (other : SpanState) → (at ≡ place → ⊥) → slice_get (spans_of group) at ≡ Some other → IsStored page_now other
  other_now at other apart there q held is = stays_other at other there q held is (λ same. apart_at (spans_of group) at place other span q sound.apart there here apart
      (contains-live_slots other.log q ∙ ap is_some is)
      (ap (contains (live_slots span.log)) same ∙ live-if_held span.log slot generation settable.0))

  pub spans_of-set_group : spans_of after ≡ set (spans_of group) place changed
  spans_of-set_group = spans_of-with_span group place changed

  pub IsSoundGroup-set : IsSoundGroup after
  IsSoundGroup-set = record {
    apart = subst AreApart (sym spans_of-set_group) (keep_held (spans_of group) place span slot generation value here settable.0 sound.apart).1;
    legal = λ at other there. elim (cases-with_span group place changed at other there) [
      | inl this ↦ subst (λ (s : SpanState). IsLegal s.gens s.log) this.1 (IsLegal-set span.class span.gens span.log slot generation value (sound.legal place span here) of_class settable.0 settable.1)
      | inr that ↦ sound.legal at other that.1
    ];
    classes = AreSpansOf-with_span group place changed sound.classes (record {
      class_is = its.class_is;
      of_class = IsOfClass-push group.head.class span.log _ its.of_class fits_page;
    });
    page = λ at other there. elim (cases-with_span group place changed at other there) [
      | inl this ↦ subst (IsStored page_now) this.1 changed_now
      | inr that ↦ other_now at other that.0 that.1
    ];
  }
