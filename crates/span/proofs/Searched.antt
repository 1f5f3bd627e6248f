-- What a binary search by numbers that rise finds.
use Rattle.std.proofs.Common.{ℕ, ◌<◌, ◌≤◌, ◌≡◌, List, length, subst, ap, inl, inr, arith, get_or}
use Rattle.std.specs.Prelude.{Err}
use Rattle.std.specs.Cmp.{ranks}
use Rattle.std.specs.List.Sorted.{IsBinarySearchResult, IsPartitionPoint}
use Rattle.std.specs.Ordering.{MatchOrdering, nat_cmp, ordering_index}
use Rattle.std.specs.declared.cmp.Ordering.{Ordering}
use Rattle.std.specs.declared.cmp.Ordering.TheVariants.{Less, Greater}
use Rattle.std.proofs.lemmas.Bool.{cases_eq, cases_lt}
use Rattle.std.proofs.lemmas.Bool.Decides.{nat_tests}

-- what a comparison of numbers tells
pub told : (low high : ℕ) (order : Ordering) → nat_cmp low high ≡ order → MatchOrdering order (low < high) (low ≡ high) (high < low)
told low high order is = subst (λ o. MatchOrdering o (low < high) (low ≡ high) (high < low)) is (ranks low high)

-- where none is found, none has the number
pub none-numbered : {X : Type 0} (number_of : X → ℕ) (xs : List X) (number split : ℕ)
    → ((low high : ℕ) (d : X) → low < high → high < length xs → number_of (get_or xs low d) < number_of (get_or xs high d))
    → IsBinarySearchResult (λ x. nat_cmp (number_of x) number) xs (Err split) → (at : ℕ) (d : X) → at < length xs → number_of (get_or xs at d) ≡ number → ⊥
none-numbered {X} number_of xs number split up found at d within same = elim (cases_lt at split) [
  | inl below ↦ (let less : number_of (get_or xs at d) < number = told _ _ _ (parted.0 at d (omega arith) below) in omega arith)
  | inr above ↦ (let more : number < number_of (get_or xs at d) = told _ _ _ (parted.1 at d above within) in omega arith)
]
  where
    step : (low high : ℕ) → low ≤ high → ordering_index (nat_cmp low number) ≤ ordering_index (nat_cmp high number)
    step low high le = grind (arith, nat_tests)

    ordered : (low high : ℕ) (d : X) → low ≤ high → high < length xs → number_of (get_or xs low d) ≤ number_of (get_or xs high d)
    ordered low high d le within = elim (cases_eq low high) [
      | inl same ↦ (let one : number_of (get_or xs low d) ≡ number_of (get_or xs high d) = ap (λ at. number_of (get_or xs at d)) same in omega arith)
      | inr other ↦ omega (arith, up low high d (omega arith) within)
    ]

    parted : IsPartitionPoint (λ x. nat_cmp (number_of x) number ≡ Less) (λ x. nat_cmp (number_of x) number ≡ Greater) xs split
    parted = found (λ low high d le within. step _ _ (ordered low high d le within))
