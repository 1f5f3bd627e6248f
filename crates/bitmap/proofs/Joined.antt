-- The numbers of a first part and of further ones.
use Rattle.std.proofs.Common.{◌≡◌, ℕ, ◌+◌, ◌-◌, ◌<◌, ◌≤◌, min, Bool, true, false, nat_lt, List, ◌∷◌, ◌∙◌, ap, sym, refl, inl, inr, lt-ltb, le-ltb, rules}
use Rattle.std.specs.Bool.{if◌then◌else◌}
use Rattle.std.specs.Ordering.{nat_cmp}
use Rattle.std.specs.FinSet.{contains, empty, insert, remove, contains-empty}
use Rattle.std.proofs.lemmas.Bool.{cases_lt, true≢false}
use Rattle.bitmap.specs.Parts.{numbers_in}
use Rattle.bitmap.specs.Slots.{SlotSet, IsLowest}
use Rattle.bitmap.specs.Words.{same_slots}
use Rattle.bitmap.proofs.InParts.{contains-numbers_in}
use Rattle.bitmap.proofs.Summaries.{contains-insert_other, contains-insert_same, contains-remove_other, contains-remove_same, same_but_at}
use Rattle.bitmap.specs.declared.bits.TheConstants.{SLOTS}

pub contains-low : (low : SlotSet) (high : List SlotSet) (q : ℕ) → q < SLOTS → contains (numbers_in (low ∷ high)) q ≡ contains low q
contains-low low high q small = search (rules, contains-numbers_in)

pub contains-high : (low : SlotSet) (high : List SlotSet) (q : ℕ) → SLOTS ≤ q → contains (numbers_in (low ∷ high)) q ≡ contains (numbers_in high) (q - SLOTS)
contains-high low high q large = search (rules, contains-numbers_in)

-- two lists have the same numbers where their first parts and the others have
pub joined-same : (low : SlotSet) (a b : List SlotSet) → numbers_in a ≡ numbers_in b → numbers_in (low ∷ a) ≡ numbers_in (low ∷ b)
joined-same low a b same = same_slots _ _ (λ q. elim (cases_lt q SLOTS) [
  | inl small ↦ contains-low low a q small ∙ sym (contains-low low b q small)
  | inr large ↦ contains-high low a q large ∙ ap (λ s. contains s (q - SLOTS)) same ∙ sym (contains-high low b q large)
])

module _ (low : SlotSet) (high : List SlotSet) (n : ℕ) where
  -- where the first part changes at the number alone, no other number comes or goes
  low-others : (now : SlotSet) → ((q : ℕ) → (q ≡ n → ⊥) → contains now q ≡ contains low q) → (q : ℕ) → (q ≡ n → ⊥)
      → contains (numbers_in (now ∷ high)) q ≡ contains (numbers_in (low ∷ high)) q
  low-others now others q other = search (rules, cases_lt, contains-low, contains-high)

  pub insert-low : n < SLOTS → numbers_in (insert low n ∷ high) ≡ insert (numbers_in (low ∷ high)) n
  insert-low within = same_but_at _ _ (numbers_in (low ∷ high)) n
      (contains-low (insert low n) high n within ∙ contains-insert_same low n ∙ sym (contains-insert_same (numbers_in (low ∷ high)) n))
      (low-others (insert low n) (contains-insert_other low n)) (contains-insert_other (numbers_in (low ∷ high)) n)

  pub remove-low : n < SLOTS → numbers_in (remove low n ∷ high) ≡ remove (numbers_in (low ∷ high)) n
  remove-low within = same_but_at _ _ (numbers_in (low ∷ high)) n
      (contains-low (remove low n) high n within ∙ contains-remove_same low n ∙ sym (contains-remove_same (numbers_in (low ∷ high)) n))
      (low-others (remove low n) (contains-remove_other low n)) (contains-remove_other (numbers_in (low ∷ high)) n)

  pub remove_if-low : n < SLOTS → (out : Bool) → numbers_in ((if out then remove low n else low) ∷ high) ≡ if out then remove (numbers_in (low ∷ high)) n else numbers_in (low ∷ high)
  remove_if-low within true = remove-low within
  remove_if-low within false = refl

  module _ (after : List SlotSet) (large : SLOTS ≤ n) where
    high-others : ((q : ℕ) → (q ≡ n - SLOTS → ⊥) → contains (numbers_in after) q ≡ contains (numbers_in high) q) → (q : ℕ) → (q ≡ n → ⊥)
        → contains (numbers_in (low ∷ after)) q ≡ contains (numbers_in (low ∷ high)) q
    high-others others q other = search (rules, cases_lt, contains-low, contains-high)

    pub insert-high : numbers_in after ≡ insert (numbers_in high) (n - SLOTS) → numbers_in (low ∷ after) ≡ insert (numbers_in (low ∷ high)) n
    insert-high is = same_but_at _ _ (numbers_in (low ∷ high)) n
        (contains-high low after n large ∙ ap (λ s. contains s (n - SLOTS)) is ∙ contains-insert_same (numbers_in high) (n - SLOTS)
        ∙ sym (contains-insert_same (numbers_in (low ∷ high)) n))
        (high-others (λ q other. ap (λ s. contains s q) is ∙ contains-insert_other (numbers_in high) (n - SLOTS) q other)) (contains-insert_other (numbers_in (low ∷ high)) n)

    pub remove-high : numbers_in after ≡ remove (numbers_in high) (n - SLOTS) → numbers_in (low ∷ after) ≡ remove (numbers_in (low ∷ high)) n
    remove-high is = same_but_at _ _ (numbers_in (low ∷ high)) n
        (contains-high low after n large ∙ ap (λ s. contains s (n - SLOTS)) is ∙ contains-remove_same (numbers_in high) (n - SLOTS)
        ∙ sym (contains-remove_same (numbers_in (low ∷ high)) n))
        (high-others (λ q other. ap (λ s. contains s q) is ∙ contains-remove_other (numbers_in high) (n - SLOTS) q other)) (contains-remove_other (numbers_in (low ∷ high)) n)

-- the least number is the first part's, where it has one

pub IsLowest-low : (low : SlotSet) (high : List SlotSet) (n : ℕ) → n < SLOTS → IsLowest low n → IsLowest (numbers_in (low ∷ high)) n
IsLowest-low low high n small least = search (rules, contains-low, cases_lt)

no_low : (low : SlotSet) (high : List SlotSet) (q : ℕ) → low ≡ empty → q < SLOTS → contains (numbers_in (low ∷ high)) q ≡ false
no_low low high q none small = contains-low low high q small ∙ ap (λ s. contains s q) none ∙ contains-empty nat_cmp q

pub IsLowest-high : (low : SlotSet) (high : List SlotSet) (n : ℕ) → low ≡ empty → IsLowest (numbers_in high) n → IsLowest (numbers_in (low ∷ high)) (SLOTS + n)
IsLowest-high low high n none least = search (rules, contains-high, cases_lt, true≢false, no_low)

pub joined-empty : (low : SlotSet) (high : List SlotSet) → low ≡ empty → numbers_in high ≡ empty → numbers_in (low ∷ high) ≡ empty
joined-empty low high none no_high = same_slots _ _ (λ q. elim (cases_lt q SLOTS) [
  | inl small ↦ no_low low high q none small ∙ sym (contains-empty nat_cmp q)
  | inr large ↦ contains-high low high q large ∙ ap (λ s. contains s (q - SLOTS)) no_high ∙ contains-empty nat_cmp (q - SLOTS) ∙ sym (contains-empty nat_cmp q)
])

-- the numbers below a count
pub joined-below : (low : SlotSet) (high : List SlotSet) (count : ℕ) → ((q : ℕ) → contains low q ≡ nat_lt q (min count SLOTS))
    → ((q : ℕ) → contains (numbers_in high) q ≡ nat_lt q (count - SLOTS)) → (q : ℕ) → contains (numbers_in (low ∷ high)) q ≡ nat_lt q count
joined-below low high count low_is high_is q = search (rules, cases_lt, contains-low, contains-high, nat_lt, min, lt-ltb, le-ltb)
