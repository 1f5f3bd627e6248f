-- A group stays sound where its head takes a put.
use Rattle.std.proofs.Common.{zero, suc, ◌≡◌, ℕ, ◌+◌, ◌<◌, length, true, false, Some, is_some, slice_get, ◌∙◌, ap, sym, subst, refl, inl, inr, eq-eqb, rules}
use Rattle.std.specs.FinSet.{contains}
use Rattle.std.proofs.lemmas.Bool.{cases_eq, ne_eqb, true≢false}
use Rattle.span.specs.Classes.{slots_in, width_of}
use Rattle.span.specs.Log.{Held, IsLegal, Value, live_slots, puts_of, worn_slots}
use Rattle.span.specs.State.{SpanState}
use Rattle.span.specs.declared.class.Class.{Class}
use Rattle.span.proofs.Changes.{get-put}
use Rattle.span.proofs.LegalLogs.{IsLegal-put}
use Rattle.span.proofs.OfClass.{IsOfClass-push}
use Rattle.span.proofs.Slots.{contains-live_slots, live_slots-put}
use Rattle.page.specs.Words.{Words, object_in, set_object}
use Rattle.page.proofs.Words.{object_in-set_object_same, on_page_slot}
use Rattle.groups.specs.Group.{Group, occupied, spans_of}
use Rattle.groups.specs.Pages.{put_group, words_of}
use Rattle.groups.specs.Sound.{IsSoundGroup, IsStored}
use Rattle.groups.specs.Spans.{AreApart, AreSpansOf, IsSpanOf, union_of, with_put}
use Rattle.groups.proofs.Lists.{same_some}
use Rattle.groups.proofs.StoredObjects.{stored_other}
use Rattle.groups.proofs.Unions.{AreDisjoint-insert, member_of_union, outside_left, outside_right}

module _ {Closed : Type 0} (group : Group Closed) (sound : IsSoundGroup group) (class : Class) (class_is : group.head.class ≡ class) (slot : ℕ)
    (on_page : slot < slots_in class) (value : Value) (width : length value ≡ width_of class)
    (free_slot : contains (occupied group) slot ≡ false) (not_worn : contains (worn_slots group.head.gens group.head.log) slot ≡ false) where
  abbrev head : SpanState
  head = with_put group.head slot value

  abbrev after : Group Closed
  after = put_group group class slot value

  abbrev page_now : Words
  page_now = set_object (words_of group.page) class slot value

  pub not_live : contains (live_slots group.head.log) slot ≡ false
  not_live = outside_left (live_slots group.head.log) (union_of group.guests) slot free_slot

  not_in_guests : contains (union_of group.guests) slot ≡ false
  not_in_guests = outside_right (live_slots group.head.log) (union_of group.guests) slot free_slot

  head_now : IsStored page_now head
  head_now q held is = elim (cases_eq q slot) [
    | inl same ↦
        let put : Some (record { generation = puts_of slot group.head.log + 1; value = value }) ≡ Some held =
        sym (get-put group.head.log slot (puts_of slot group.head.log + 1) value q ∙ rw (eq-eqb q slot same) refl) ∙ is in
        subst (λ c. object_in page_now c q ≡ held.value) (sym class_is)
        (ap (object_in page_now class) same ∙ object_in-set_object_same (words_of group.page) class slot value on_page width
        ∙ ap (λ (h : Held). h.value) (same_some put))
    | inr other ↦ stored_other group sound class class_is slot value 0 group.head refl q held (sym (get-put group.head.log slot (puts_of slot group.head.log + 1) value q ∙ rw (ne_eqb q slot other) refl) ∙ is) other
  ]

  guest_now : (place : ℕ) (span : SpanState) → slice_get group.guests place ≡ Some span → IsStored page_now span
  guest_now place span here q held is =
      let live : contains (union_of group.guests) q ≡ true = member_of_union group.guests place span q here (contains-live_slots span.log q ∙ ap is_some is) in
      stored_other group sound class class_is slot value (suc place) span here q held is (λ same. true≢false (sym live ∙ ap (contains (union_of group.guests)) same ∙ not_in_guests))

  spans_now : (place : ℕ) (span : SpanState) → slice_get (spans_of after) place ≡ Some span → IsStored page_now span
  spans_now place span here = search (rules, same_some, head_now, guest_now)

  legal_now : (place : ℕ) (span : SpanState) → slice_get (spans_of after) place ≡ Some span → IsLegal span.gens span.log
  legal_now zero span here =
      subst (λ (s : SpanState). IsLegal s.gens s.log) (same_some here)
      (IsLegal-put group.head.gens group.head.log slot value (sound.legal 0 group.head refl) (on_page_slot class slot on_page) not_live not_worn)
  legal_now (suc place) span here = sound.legal (suc place) span here

  classes_now : AreSpansOf after.head.class (spans_of after)
  classes_now zero span here = subst (IsSpanOf group.head.class) (same_some here) (record {
    class_is = refl;
    of_class = IsOfClass-push group.head.class group.head.log _ (sound.classes 0 group.head refl).of_class
        (subst (λ c. (slot < slots_in c) × (length value ≡ width_of c)) (sym class_is) (on_page, width));
  })
  classes_now (suc place) span here = sound.classes (suc place) span here

  apart_now : AreApart (spans_of after)
  apart_now = search (rules, live_slots-put, AreDisjoint-insert, not_in_guests)

  pub IsSoundGroup-put : IsSoundGroup after
  IsSoundGroup-put = record { apart = apart_now; legal = legal_now; classes = classes_now; page = spans_now }
