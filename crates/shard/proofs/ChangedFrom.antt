-- A list of which some elements are changed, from an index on.
use Rattle.std.proofs.Common.{zero, suc, ◌≡◌, ℕ, ◌+◌, List, [], ◌∷◌, length, map, Some, set, slice_get, ◌∙◌, ap, sym, refl, arith, inl, inr, ◌⊎◌}
use Rattle.groups.proofs.Lists.{same_some}
use Rattle.shard.specs.Trims.{changed_first, changed_from}
use Rattle.shard.proofs.ChangedBelow.{changed_below-next, get-changed_below, length-changed_below}

module _ {X : Type 0} (change : X → X) where
  pub length-changed_from : (from most : ℕ) (xs : List X) → length (changed_from change from most xs) ≡ length xs
  length-changed_from zero most xs = length-changed_below change most xs
  length-changed_from (suc from) most [] = refl
  length-changed_from (suc from) most (x ∷ xs) = ap suc (length-changed_from from most xs)

  pub changed_from-none : (from : ℕ) (xs : List X) → changed_from change from 0 xs ≡ xs
  changed_from-none zero xs = refl
  changed_from-none (suc from) [] = refl
  changed_from-none (suc from) (x ∷ xs) = ap (λ rest. x ∷ rest) (changed_from-none from xs)

  -- from the end of the part on they are as they were
  pub get-changed_from : (from most at : ℕ) (xs : List X) → at ≡ from + most → slice_get (changed_from change from most xs) at ≡ slice_get xs at
  get-changed_from zero most at xs is = let here : at ≡ most = omega (arith, is) in rw here (get-changed_below change most xs)
  get-changed_from (suc from) most at [] is = refl
  get-changed_from (suc from) most zero (x ∷ xs) is = absurd (omega (arith, is))
  get-changed_from (suc from) most (suc at) (x ∷ xs) is = get-changed_from from most at xs (omega (arith, is))

  pub changed_from-next : (from most at : ℕ) (xs : List X) (x : X) → at ≡ from + most → slice_get (changed_from change from most xs) at ≡ Some x
      → set (changed_from change from most xs) at (change x) ≡ changed_from change from (most + 1) xs
  changed_from-next zero most at xs x is here = let place : at ≡ most = omega (arith, is) in
      rw place (changed_below-next change most xs x (ap (slice_get (changed_first change most xs)) (sym place) ∙ here))
  changed_from-next (suc from) most at [] x is here = absurd cc
  changed_from-next (suc from) most zero (y ∷ xs) x is here = absurd (omega (arith, is))
  changed_from-next (suc from) most (suc at) (y ∷ xs) x is here = ap (λ rest. y ∷ rest) (changed_from-next from most at xs x (omega (arith, is)) here)

  -- each element was there before, or is one that was, changed

  stood_first : (most : ℕ) (xs : List X) (at : ℕ) (y : X) → slice_get (changed_first change most xs) at ≡ Some y → (x : X) × (slice_get xs at ≡ Some x) × ((y ≡ x) ⊎ (y ≡ change x))
  stood_first zero xs at y there = (y, there, inl refl)
  stood_first (suc most) [] at y there = absurd cc
  stood_first (suc most) (x ∷ xs) zero y there = (x, refl, inr (sym (same_some there)))
  stood_first (suc most) (x ∷ xs) (suc at) y there = stood_first most xs at y there

  pub stood : (from most : ℕ) (xs : List X) (at : ℕ) (y : X) → slice_get (changed_from change from most xs) at ≡ Some y → (x : X) × (slice_get xs at ≡ Some x) × ((y ≡ x) ⊎ (y ≡ change x))
  stood zero most xs at y there = stood_first most xs at y there
  stood (suc from) most [] at y there = absurd cc
  stood (suc from) most (x ∷ xs) zero y there = (x, refl, inl (sym (same_some there)))
  stood (suc from) most (x ∷ xs) (suc at) y there = stood from most xs at y there

  -- an element that a change leaves as it is still stands where it stood

  stands_first : (most : ℕ) (xs : List X) (at : ℕ) (x : X) → change x ≡ x → slice_get xs at ≡ Some x → slice_get (changed_first change most xs) at ≡ Some x
  stands_first zero xs at x same here = here
  stands_first (suc most) [] at x same here = absurd cc
  stands_first (suc most) (y ∷ xs) zero x same here = ap (λ z. Some (change z)) (same_some here) ∙ ap Some same
  stands_first (suc most) (y ∷ xs) (suc at) x same here = stands_first most xs at x same here

  pub stands : (from most : ℕ) (xs : List X) (at : ℕ) (x : X) → change x ≡ x → slice_get xs at ≡ Some x → slice_get (changed_from change from most xs) at ≡ Some x
  stands zero most xs at x same here = stands_first most xs at x same here
  stands (suc from) most [] at x same here = absurd cc
  stands (suc from) most (y ∷ xs) zero x same here = here
  stands (suc from) most (y ∷ xs) (suc at) x same here = stands from most xs at x same here

  -- what a change keeps of each element stays of all

  map_first : {Y : Type 0} (f : X → Y) → ((x : X) → f (change x) ≡ f x) → (most : ℕ) (xs : List X) → map f (changed_first change most xs) ≡ map f xs
  map_first f keeps zero xs = refl
  map_first f keeps (suc most) [] = refl
  map_first f keeps (suc most) (x ∷ xs) = (λ i. keeps x i ∷ map_first f keeps most xs i)

  pub map-changed_from : {Y : Type 0} (f : X → Y) → ((x : X) → f (change x) ≡ f x) → (from most : ℕ) (xs : List X) → map f (changed_from change from most xs) ≡ map f xs
  map-changed_from f keeps zero most xs = map_first f keeps most xs
  map-changed_from f keeps (suc from) most [] = refl
  map-changed_from f keeps (suc from) most (x ∷ xs) = ap (λ rest. f x ∷ rest) (map-changed_from f keeps from most xs)
