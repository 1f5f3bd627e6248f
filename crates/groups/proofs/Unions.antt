-- The union of the live sets of a group's spans.
use Rattle.std.proofs.Common.{zero, suc, ◌≡◌, ℕ, true, false, not, ◌&&◌, ◌||◌, List, [], ◌∷◌, Some, slice_get, set, ap, sym, ◌∙◌, subst, eq-eqb, rules}
use Rattle.std.specs.Ordering.{nat_cmp, eq_by_cmp}
use Rattle.std.specs.Cmp.{nat_cmp_total}
use Rattle.std.specs.FinSet.{contains, insert, remove, union, empty, contains-insert, contains-remove, contains-union, contains-empty}
use Rattle.std.proofs.Math.Bool.{or_assoc, or_comm}
use Rattle.std.proofs.lemmas.Bool.{cases_eq, false_from_ne_true, false≢true, ne_eqb, or_parts, true≢false}
use Rattle.bitmap.specs.Slots.{SlotSet, AreDisjoint}
use Rattle.bitmap.specs.Words.{same_slots}
use Rattle.bitmap.specs.Operations.{AreDisjoint-at, AreDisjoint-by_slot}
use Rattle.bitmap.proofs.Summaries.{was}
use Rattle.span.specs.Log.{Value, live_slots, Holds}
use Rattle.span.proofs.Keeping.{live-if_held}
use Rattle.span.proofs.Slots.{live_slots-free, live_slots-set}
use Rattle.span.specs.State.{SpanState}
use Rattle.groups.specs.Spans.{union_of, AreApart, with_free_at, with_set_at}

pub outside_left : (a b : SlotSet) (q : ℕ) → contains (union a b) q ≡ false → contains a q ≡ false
outside_left a b q h = (or_parts _ _ (sym (contains-union nat_cmp_total a b q) ∙ h)).0

pub outside_right : (a b : SlotSet) (q : ℕ) → contains (union a b) q ≡ false → contains b q ≡ false
outside_right a b q h = (or_parts _ _ (sym (contains-union nat_cmp_total a b q) ∙ h)).1

pub union-insert : (a b : SlotSet) (slot : ℕ) → union (insert a slot) b ≡ insert (union a b) slot
union-insert a b slot = same_slots _ _ (λ q.
    contains-union nat_cmp_total (insert a slot) b q
    ∙ ap (λ x. x || contains b q) (contains-insert nat_cmp_total a slot q)
    ∙ or_assoc (eq_by_cmp nat_cmp q slot) (contains a q) (contains b q)
    ∙ ap (λ x. eq_by_cmp nat_cmp q slot || x) (sym (contains-union nat_cmp_total a b q))
    ∙ sym (contains-insert nat_cmp_total (union a b) slot q))

pub AreDisjoint-insert : (a b : SlotSet) (slot : ℕ) → AreDisjoint a b → contains b slot ≡ false → AreDisjoint (insert a slot) b
AreDisjoint-insert a b slot apart out = search (rules, AreDisjoint-by_slot, cases_eq, true≢false, AreDisjoint-at, contains-insert, ne_eqb)

pub AreDisjoint-remove_left : (a b : SlotSet) (slot : ℕ) → AreDisjoint a b → AreDisjoint (remove a slot) b
AreDisjoint-remove_left a b slot apart = AreDisjoint-by_slot _ _ (λ q inside other. AreDisjoint-at a b apart q (was a slot q inside) other)

pub AreDisjoint-remove_right : (a b : SlotSet) (slot : ℕ) → AreDisjoint a b → AreDisjoint a (remove b slot)
AreDisjoint-remove_right a b slot apart = AreDisjoint-by_slot _ _ (λ q inside other. AreDisjoint-at a b apart q inside (was b slot q other))

pub union-remove_left : (a b : SlotSet) (slot : ℕ) → contains b slot ≡ false → union (remove a slot) b ≡ remove (union a b) slot
union-remove_left a b slot out = same_slots _ _ (λ q.
    contains-union nat_cmp_total (remove a slot) b q
    ∙ ap (λ x. x || contains b q) (contains-remove nat_cmp_total a slot q)
    ∙ each q
    ∙ ap (λ x. not (eq_by_cmp nat_cmp q slot) && x) (sym (contains-union nat_cmp_total a b q))
    ∙ sym (contains-remove nat_cmp_total (union a b) slot q))
  where
    each : (q : ℕ) → ((not (eq_by_cmp nat_cmp q slot) && contains a q) || contains b q) ≡ (not (eq_by_cmp nat_cmp q slot) && (contains a q || contains b q))
    each q = search (rules, cases_eq, eq-eqb, ne_eqb)

pub union-swap : (a b : SlotSet) → union a b ≡ union b a
union-swap a b = same_slots _ _ (λ q. contains-union nat_cmp_total a b q ∙ or_comm (contains a q) (contains b q) ∙ sym (contains-union nat_cmp_total b a q))

pub union-remove_right : (a b : SlotSet) (slot : ℕ) → contains a slot ≡ false → union a (remove b slot) ≡ remove (union a b) slot
union-remove_right a b slot out = union-swap a (remove b slot) ∙ union-remove_left b a slot out ∙ ap (λ s. remove s slot) (union-swap b a)

-- a live slot of one of the spans is in their union
pub member_of_union : (spans : List SpanState) (place : ℕ) (span : SpanState) (slot : ℕ) → slice_get spans place ≡ Some span
    → contains (live_slots span.log) slot ≡ true → contains (union_of spans) slot ≡ true
member_of_union [] place span slot at live = absurd cc
member_of_union (first ∷ rest) zero span slot at live = search (rules, contains-union)
member_of_union (first ∷ rest) (suc place) span slot at live =
    contains-union nat_cmp_total (live_slots first.log) (union_of rest) slot ∙ rw (member_of_union rest place span slot at live) (or_comm _ true)

outside_if_disjoint : (a b : SlotSet) (q : ℕ) → AreDisjoint a b → contains a q ≡ true → contains b q ≡ false
outside_if_disjoint a b q apart inside = false_from_ne_true (contains b q) (AreDisjoint-at a b apart q inside)

outside_if_disjoint_right : (a b : SlotSet) (q : ℕ) → AreDisjoint a b → contains b q ≡ true → contains a q ≡ false
outside_if_disjoint_right a b q apart inside = false_from_ne_true (contains a q) (λ other. AreDisjoint-at a b apart q other inside)

module _ (slot : ℕ) (span after : SpanState) (live : contains (live_slots span.log) slot ≡ true) (less : live_slots after.log ≡ remove (live_slots span.log) slot) where
  -- where one span loses a slot, the union loses it, and the spans stay apart
  pub lose_slot : (spans : List SpanState) (place : ℕ) → slice_get spans place ≡ Some span → AreApart spans
      → (union_of (set spans place after) ≡ remove (union_of spans) slot) × AreApart (set spans place after)
  lose_slot [] place at apart = absurd cc
  lose_slot (first ∷ rest) zero at apart = search (rules, outside_if_disjoint, union-remove_left, AreDisjoint-remove_left)
  lose_slot (first ∷ rest) (suc place) at apart =
      let later = lose_slot rest place at apart.1 in
      let out : contains (live_slots first.log) slot ≡ false = outside_if_disjoint_right (live_slots first.log) (union_of rest) slot apart.0 (member_of_union rest place span slot at live) in (
        ap (union (live_slots first.log)) later.0 ∙ union-remove_right (live_slots first.log) (union_of rest) slot out,
        (subst (AreDisjoint (live_slots first.log)) (sym later.0) (AreDisjoint-remove_right _ _ slot apart.0), later.1),
      )

pub union-empty : (s : SlotSet) → union s empty ≡ s
union-empty s = same_slots _ _ (λ q. contains-union nat_cmp_total s empty q ∙ rw (contains-empty nat_cmp q) (or_comm (contains s q) false))

pub AreDisjoint-empty : (s : SlotSet) → AreDisjoint s empty
AreDisjoint-empty s = AreDisjoint-by_slot _ _ (λ q inside other. false≢true (sym (contains-empty nat_cmp q) ∙ other))

-- after a free in one of the spans
pub lose_held : (spans : List SpanState) (place : ℕ) (span : SpanState) (slot generation : ℕ) → slice_get spans place ≡ Some span → Holds span.log slot generation → AreApart spans
    → (union_of (set spans place (with_free_at span slot generation)) ≡ remove (union_of spans) slot) × AreApart (set spans place (with_free_at span slot generation))
lose_held spans place span slot generation at holds apart =
    lose_slot slot span (with_free_at span slot generation) (live-if_held span.log slot generation holds) (live_slots-free span.log slot generation) spans place at apart

-- where the same slots of one span are live, the union is the same, and the spans stay apart
pub keep_slots : (span after : SpanState) → live_slots after.log ≡ live_slots span.log → (spans : List SpanState) (place : ℕ) → slice_get spans place ≡ Some span → AreApart spans
    → (union_of (set spans place after) ≡ union_of spans) × AreApart (set spans place after)
keep_slots span after same [] place at apart = absurd cc
keep_slots span after same (first ∷ rest) zero at apart = search rules
keep_slots span after same (first ∷ rest) (suc place) at apart = search (rules, (keep_slots span after same rest place at apart.1))

-- after a set in one of the spans
pub keep_held : (spans : List SpanState) (place : ℕ) (span : SpanState) (slot generation : ℕ) (value : Value) → slice_get spans place ≡ Some span → Holds span.log slot generation → AreApart spans
    → (union_of (set spans place (with_set_at span slot generation value)) ≡ union_of spans) × AreApart (set spans place (with_set_at span slot generation value))
keep_held spans place span slot generation value at holds apart =
    keep_slots span (with_set_at span slot generation value) (live_slots-set span.log slot generation value holds) spans place at apart
