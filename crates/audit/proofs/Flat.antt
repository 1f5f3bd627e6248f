-- The receipts of all lists, list after list.
use Rattle.std.proofs.Common.{zero, suc, ◌≡◌, ℕ, ◌+◌, List, [], ◌∷◌, ◌++◌, map, flat_map, length, get_or, Some, slice_get, refl, inl, inr, ◌⊎◌, arith, rules}
use Rattle.std.proofs.lemmas.Option.{slice_get_within}
use Rattle.span.proofs.KeptReceipts.{get_left, get_right}

pub get_cases : {Y : Type 0} (l m : List Y) (k : ℕ) (y : Y) → slice_get (l ++ m) k ≡ Some y → (slice_get l k ≡ Some y) ⊎ ((i : ℕ) × (k ≡ length l + i) × (slice_get m i ≡ Some y))
get_cases [] m k y at = inr (k, omega arith, at)
get_cases (x ∷ l) m zero y at = inl at
get_cases (x ∷ l) m (suc k) y at = search (rules, (get_cases l m k y at))

module _ {X Y : Type 0} (f : X → List Y) where
  -- where the element at an index of a list stands among all
  abbrev pub place : List X → ℕ → ℕ → ℕ
  place [] w i = 0
  place (x ∷ xs) zero i = i
  place (x ∷ xs) (suc w) i = length (f x) + place xs w i

  pub flat_at : (xs : List X) (w i : ℕ) (y : Y) → slice_get (get_or (map f xs) w []) i ≡ Some y → slice_get (flat_map f xs) (place xs w i) ≡ Some y
  flat_at [] w i y at = absurd cc
  flat_at (x ∷ xs) zero i y at = get_left (f x) (flat_map f xs) i y at
  flat_at (x ∷ xs) (suc w) i y at = get_right (f x) (flat_map f xs) (length (f x) + place xs w i) (place xs w i) y refl (flat_at xs w i y at)

  pub flat_from : (xs : List X) (k : ℕ) (y : Y) → slice_get (flat_map f xs) k ≡ Some y → (w i : ℕ) × (slice_get (get_or (map f xs) w []) i ≡ Some y) × (place xs w i ≡ k)
  flat_from [] k y at = absurd cc
  flat_from (x ∷ xs) k y at = elim (get_cases (f x) (flat_map f xs) k y at) [
    | inl here ↦ (0, k, here, refl)
    | inr there ↦
        let later = flat_from xs there.0 y there.2 in
        (suc later.0, later.1, later.2, omega (arith, later.3, there.1))
  ]

  pub flat_once : (xs : List X) (v i w j : ℕ) (a b : Y) → slice_get (get_or (map f xs) v []) i ≡ Some a → slice_get (get_or (map f xs) w []) j ≡ Some b
      → place xs v i ≡ place xs w j → (v ≡ w) × (i ≡ j)
  flat_once [] v i w j a b at_i at_j same = absurd cc
  flat_once (x ∷ xs) zero i zero j a b at_i at_j same = (refl, same)
  flat_once (x ∷ xs) zero i (suc w) j a b at_i at_j same = absurd (let within = slice_get_within (f x) i a at_i in omega arith)
  flat_once (x ∷ xs) (suc v) i zero j a b at_i at_j same = absurd (let within = slice_get_within (f x) j b at_j in omega arith)
  flat_once (x ∷ xs) (suc v) i (suc w) j a b at_i at_j same = search (rules, (flat_once xs v i w j a b at_i at_j))
