-- When a set of slots is empty.
use Rattle.std.proofs.Common.{◌≡◌, ◌⊎◌, ◌∙◌, ℕ, Option, MatchOption, ap, is_some, inl, inr, true, rules}
use Rattle.std.specs.Prelude.{◌≢◌}
use Rattle.std.specs.Ordering.{nat_cmp}
use Rattle.std.specs.FinSet.{contains-empty, empty, empty_of_len, len, len-empty}
use Rattle.std.proofs.lemmas.Bool.{cases_eq, false≢true}
use Rattle.bitmap.specs.Slots.{IsLowest, SlotSet}

-- a set has no member, or some
pub empty_or_not : (s : SlotSet) → (s ≡ empty) ⊎ (s ≢ empty)
empty_or_not s = elim (cases_eq (len s) 0) [
  | inl none ↦ inl (empty_of_len s none)
  | inr some ↦ inr (λ none. some (ap (λ (x : SlotSet). len x) none ∙ len-empty nat_cmp))
]

-- a set with a lowest member is not empty
pub not_empty : (s : SlotSet) (o : Option ℕ) → MatchOption o (s ≡ empty) (IsLowest s) → is_some o ≡ true → s ≢ empty
not_empty s o m some none = search (rules, false≢true, contains-empty)
