-- What a walk over a list knows of the places that it has passed.
use Rattle.std.proofs.Common.{◌≡◌, ℕ, ◌+◌, ◌<◌, ◌≤◌, List, length, Some, slice_get, arith, rules}
use Rattle.std.proofs.lemmas.Bool.{cases_eq}
use Rattle.std.proofs.lemmas.Option.{slice_get_within}
use Rattle.groups.proofs.Lists.{same_some}

module _ {X : Type 0} (P : X → Type 0) where
  pub below_next : (xs : List X) (at : ℕ) (x : X) → slice_get xs at ≡ Some x → (P x → ⊥) → ((other : ℕ) (y : X) → other < at → slice_get xs other ≡ Some y → P y → ⊥)
      → (other : ℕ) (y : X) → other < at + 1 → slice_get xs other ≡ Some y → P y → ⊥
  below_next xs at x here not before other y less there p = search (rules, cases_eq, same_some)

  pub not_there : (xs : List X) (at : ℕ) → length xs ≤ at → ((other : ℕ) (y : X) → other < at → slice_get xs other ≡ Some y → P y → ⊥)
      → ((place : ℕ) × (x : X) × (slice_get xs place ≡ Some x) × P x) → ⊥
  not_there xs at past before (place, x, there, p) = before place x (let low = slice_get_within xs place x there in omega arith) there p
