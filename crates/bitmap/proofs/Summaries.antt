-- A set of numbers and the set of its parts that have one.
use Rattle.std.proofs.Common.{◌≡◌, ℕ, ◌+◌, ◌*◌, ◌/◌, ◌<◌, ◌≤◌, true, false, Option, Some, None, is_some, not, nat_lt, ◌∙◌, ap, sym, subst, refl, inl, inr, arith, lt-ltb, le-ltb, eq-eqb, rules}
use Rattle.std.specs.Ordering.{nat_cmp, eq_by_cmp}
use Rattle.std.specs.Cmp.{nat_cmp_total, second_so, unsigned_tied}
use Rattle.std.specs.FinSet.{contains, empty, insert, remove, contains-empty, contains-insert, contains-remove}
use Rattle.std.proofs.lemmas.Bool.{cases_eq, cases_lt, false_from_ne_true, ltb-true, ne_eqb, true≢false}
use Rattle.std.specs.Prelude.{MatchOption}
use Rattle.bitmap.specs.Parts.{HasNoneIn, IsLowestIn, IsSummary}
use Rattle.bitmap.specs.Slots.{SlotSet, IsLowest}
use Rattle.bitmap.specs.Words.{same_slots}
use Rattle.bitmap.specs.declared.bits.TheConstants.{SLOTS}

pub contains-insert_same : (s : SlotSet) (at : ℕ) → contains (insert s at) at ≡ true
contains-insert_same s at = contains-insert nat_cmp_total s at at ∙ rw (unsigned_tied at at, eq-eqb at at refl) refl

pub contains-insert_other : (s : SlotSet) (at q : ℕ) → (q ≡ at → ⊥) → contains (insert s at) q ≡ contains s q
contains-insert_other s at q other = contains-insert nat_cmp_total s at q ∙ rw (unsigned_tied q at, ne_eqb q at other) refl

pub contains-remove_same : (s : SlotSet) (at : ℕ) → contains (remove s at) at ≡ false
contains-remove_same s at = contains-remove nat_cmp_total s at at ∙ rw (unsigned_tied at at, eq-eqb at at refl) refl

pub contains-remove_other : (s : SlotSet) (at q : ℕ) → (q ≡ at → ⊥) → contains (remove s at) q ≡ contains s q
contains-remove_other s at q other = contains-remove nat_cmp_total s at q ∙ rw (unsigned_tied q at, ne_eqb q at other) refl

-- sets that are alike at a number, and elsewhere as a third, are one
pub same_but_at : (a b c : SlotSet) (n : ℕ) → contains a n ≡ contains b n → ((q : ℕ) → (q ≡ n → ⊥) → contains a q ≡ contains c q)
    → ((q : ℕ) → (q ≡ n → ⊥) → contains b q ≡ contains c q) → a ≡ b
same_but_at a b c n this left right = same_slots _ _ (λ q. elim (cases_eq q n) [
  | inl same ↦ ap (contains a) same ∙ this ∙ ap (contains b) (sym same)
  | inr other ↦ left q other ∙ sym (right q other)
])

-- what was in before is in
kept : (s : SlotSet) (at q : ℕ) → contains s q ≡ true → contains (insert s at) q ≡ true
kept s at q member = search (rules, cases_eq, contains-insert_same, contains-insert_other)

-- what is left was in
pub was : (s : SlotSet) (at q : ℕ) → contains (remove s at) q ≡ true → contains s q ≡ true
was s at q member = second_so (not (eq_by_cmp nat_cmp q at)) (contains s q) (sym (contains-remove nat_cmp_total s at q) ∙ member)

pub IsSummary-empty : (numbers filled : SlotSet) → numbers ≡ empty → filled ≡ empty → IsSummary numbers filled
IsSummary-empty numbers filled none no_part = search (rules, true≢false, contains-empty)

module _ (numbers filled : SlotSet) (summary : IsSummary numbers filled) where
  pub IsSummary-insert : (at : ℕ) → IsSummary (insert numbers at) (insert filled (at / SLOTS))
  IsSummary-insert at = search (rules, cases_eq, contains-insert_same, kept, contains-insert_other)

  -- another number of the part is left
  pub IsSummary-remove : (at left : ℕ) → left / SLOTS ≡ at / SLOTS → contains (remove numbers at) left ≡ true → IsSummary (remove numbers at) filled
  IsSummary-remove at left here inside = record {
    has = λ n member. summary.has n (was numbers at n member);
    some = λ part member. elim (cases_eq part (at / SLOTS)) [
      | inl same ↦ (left, here ∙ sym same, inside)
      | inr other ↦
          let (n, place, is) = summary.some part member in
          (n, place, contains-remove_other numbers at n (λ e. other (sym place ∙ ap (λ k. k / SLOTS) e)) ∙ is)
    ];
  }

  -- none of the part is left
  pub IsSummary-remove_last : (at : ℕ) → HasNoneIn (remove numbers at) (at / SLOTS) → IsSummary (remove numbers at) (remove filled (at / SLOTS))
  IsSummary-remove_last at none = search (rules, contains-remove_other, true≢false, was, cases_eq, contains-remove_same)

  -- the least number stands in the least part that has one
  pub IsLowest-part : (part n : ℕ) → IsLowest filled part → IsLowestIn numbers part n → IsLowest numbers n
  IsLowest-part part n least lowest = search (rules, cases_eq)

  -- a part that is in has a number
  pub has_some : (part : ℕ) → contains filled part ≡ true → HasNoneIn numbers part → ⊥
  has_some part member none = let (n, place, is) = summary.some part member in true≢false (sym is ∙ none n place)

  pub empty-summary : filled ≡ empty → numbers ≡ empty
  empty-summary none = same_slots _ _
      (λ q. false_from_ne_true (contains numbers q)
      (λ member. true≢false (sym (summary.has q member) ∙ ap (λ s. contains s (q / SLOTS)) none ∙ contains-empty nat_cmp (q / SLOTS)))
      ∙ sym (contains-empty nat_cmp q))

-- the numbers below a count, and the parts of these
pub IsSummary-below : (numbers filled : SlotSet) (count parts : ℕ) → count ≤ SLOTS * parts → SLOTS * parts < count + SLOTS
    → ((q : ℕ) → contains numbers q ≡ nat_lt q count) → ((q : ℕ) → contains filled q ≡ nat_lt q parts) → IsSummary numbers filled
IsSummary-below numbers filled count parts low high below parts_below = record {
  has = λ n member. let less : n < count = ltb-true n count (sym (below n) ∙ member) in
      parts_below (n / SLOTS) ∙ lt-ltb (n / SLOTS) parts (omega (arith, less, low));
  some = λ part member.
      let less : part < parts = ltb-true part parts (sym (parts_below part) ∙ member) in
      (SLOTS * part, omega arith, below (SLOTS * part) ∙ lt-ltb (SLOTS * part) count (omega (arith, less, high)));
}

-- the numbers below a count, and below the next

pub below-none : (q : ℕ) → contains {R = nat_cmp} empty q ≡ nat_lt q 0
below-none q = contains-empty nat_cmp q ∙ sym (le-ltb q 0 (omega arith))

pub below-next : (s : SlotSet) (count : ℕ) → ((q : ℕ) → contains s q ≡ nat_lt q count) → (q : ℕ) → contains (insert s count) q ≡ nat_lt q (count + 1)
below-next s count below q = search (rules, cases_eq, cases_lt, nat_lt, contains-insert_same, lt-ltb, contains-insert_other, le-ltb)

-- what a look into the part of a number that was taken out says

module _ (numbers filled : SlotSet) (summary : IsSummary numbers filled) (at : ℕ) (after : SlotSet) (after_is : after ≡ remove numbers at) where
  pub IsSummary-left : (found : Option ℕ) → MatchOption found (HasNoneIn after (at / SLOTS)) (IsLowestIn after (at / SLOTS)) → is_some found ≡ true
      → IsSummary after filled
  IsSummary-left None none some = absurd (true≢false (sym some))
  IsSummary-left (Some left) lowest some = subst (λ s. IsSummary s filled) (sym after_is)
      (IsSummary-remove numbers filled summary at left lowest.part_is (ap (λ s. contains s left) (sym after_is) ∙ lowest.inside))

  pub IsSummary-left_none : (found : Option ℕ) → MatchOption found (HasNoneIn after (at / SLOTS)) (IsLowestIn after (at / SLOTS)) → is_some found ≡ false
      → IsSummary after (remove filled (at / SLOTS))
  IsSummary-left_none None none gone = subst (λ s. IsSummary s (remove filled (at / SLOTS))) (sym after_is)
      (IsSummary-remove_last numbers filled summary at (subst (λ s. HasNoneIn s (at / SLOTS)) after_is none))
  IsSummary-left_none (Some left) lowest gone = absurd (true≢false gone)

-- the least number of the least part that has one
pub lowest-part : (numbers filled : SlotSet) → IsSummary numbers filled → (part : ℕ) → IsLowest filled part → (found : Option ℕ)
    → MatchOption found (HasNoneIn numbers part) (IsLowestIn numbers part) → MatchOption found (numbers ≡ empty) (IsLowest numbers)
lowest-part numbers filled summary part least None none = absurd (has_some numbers filled summary part least.inside none)
lowest-part numbers filled summary part least (Some n) lowest = IsLowest-part numbers filled summary part n least lowest
