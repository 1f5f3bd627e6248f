-- The slots that are taken after a put.
use Rattle.std.proofs.Common.{◌≡◌, ℕ, ◌⊎◌, ◌+◌, ◌/◌, ◌<◌, ◌≤◌, ◌&&◌, ◌||◌, ◌==◌, ◌++◌, ◌∷◌, [], List, Bool, true, ap, sym, ◌∙◌, refl, inl, inr, eq-eqb, nat_lt, rules}
use Rattle.std.specs.Cmp.{nat_cmp_total, unsigned_tied}
use Rattle.std.specs.FinSet.{contains, insert, union, contains-insert, contains-union}
use Rattle.std.specs.Ordering.{eq_by_cmp, nat_cmp}
use Rattle.std.proofs.Math.Bool.{or-true}
use Rattle.std.proofs.lemmas.Bool.{cases_Bool, cases_eq, ne_eqb, true≢false}
use Rattle.bitmap.specs.Slots.{SlotSet}
use Rattle.bitmap.specs.declared.bits.TheConstants.{SLOTS}
use Rattle.span.specs.Log.{Value, live_slots, puts_of, worn_slots}
use Rattle.span.specs.declared.change.Change.{Change}
use Rattle.span.specs.declared.change.Change.TheVariants.{Put}
use Rattle.span.proofs.Changes.{puts_of-put_other}
use Rattle.span.proofs.Slots.{contains-worn_slots, live_slots-put}
use Rattle.groups.specs.Spans.{SpansState, taken, union_of, with_put}

-- a member of either set is one of both
left_in : (a b : SlotSet) (q : ℕ) → contains a q ≡ true → contains (union a b) q ≡ true
left_in a b q member = contains-union nat_cmp_total a b q ∙ rw member refl

right_in : (a b : SlotSet) (q : ℕ) → contains b q ≡ true → contains (union a b) q ≡ true
right_in a b q member = contains-union nat_cmp_total a b q ∙ ap (λ other. contains a q || other) member ∙ or-true (contains a q)

-- and there is no other
either : (a b : SlotSet) (q : ℕ) → contains (union a b) q ≡ true → (contains a q ≡ true) ⊎ (contains b q ≡ true)
either a b q member = search (rules, contains-union)

module _ (spans : SpansState) (slot : ℕ) (value : Value) where
  abbrev log_after : List Change
  log_after = spans.head.log ++ Put slot (puts_of slot spans.head.log + 1) value ∷ []

  abbrev guests : SlotSet
  guests = union_of spans.guests

  abbrev live : SlotSet
  live = union (live_slots spans.head.log) guests

  abbrev worn : SlotSet
  worn = worn_slots spans.head.gens spans.head.log

  abbrev live_after : SlotSet
  live_after = union (live_slots log_after) guests

  abbrev worn_after : SlotSet
  worn_after = worn_slots spans.head.gens log_after

  live_is : live_slots log_after ≡ insert (live_slots spans.head.log) slot
  live_is = live_slots-put spans.head.log slot (puts_of slot spans.head.log + 1) value

  -- what is taken stays so, and the slot comes to it
  pub taken-put : (q : ℕ) → contains (insert (taken spans) slot) q ≡ true → contains (taken (record spans { head = with_put spans.head slot value })) q ≡ true
  taken-put q member = elim (cases_eq q slot) [
    | inl same ↦ left_in live_after worn_after q (left_in (live_slots log_after) guests q
        (rw live_is (contains-insert nat_cmp_total (live_slots spans.head.log) slot q ∙ rw (unsigned_tied q slot, eq-eqb q slot same) refl)))
    | inr other ↦ elim (either live worn q (sym (contains-insert nat_cmp_total (taken spans) slot q ∙ rw (unsigned_tied q slot, ne_eqb q slot other) refl) ∙ member)) [
      | inl occupied ↦ left_in live_after worn_after q (elim (either (live_slots spans.head.log) guests q occupied) [
        | inl head ↦ left_in (live_slots log_after) guests q
            (rw live_is (contains-insert nat_cmp_total (live_slots spans.head.log) slot q ∙ rw (unsigned_tied q slot, ne_eqb q slot other) head))
        | inr guest ↦ right_in (live_slots log_after) guests q guest
      ])
      | inr is_worn ↦ right_in live_after worn_after q (contains-worn_slots spans.head.gens log_after q
          ∙ ap (λ n. (n == spans.head.gens) && nat_lt q SLOTS) (puts_of-put_other spans.head.log slot (puts_of slot spans.head.log + 1) value q (λ e. other (sym e)))
          ∙ sym (contains-worn_slots spans.head.gens spans.head.log q) ∙ is_worn)
    ]
  ]

  pub taken-put_old : (q : ℕ) → contains (taken spans) q ≡ true → contains (taken (record spans { head = with_put spans.head slot value })) q ≡ true
  taken-put_old q member = taken-put q (contains-insert nat_cmp_total (taken spans) slot q ∙ ap (λ b. eq_by_cmp nat_cmp q slot || b) member ∙ or-true (eq_by_cmp nat_cmp q slot))
