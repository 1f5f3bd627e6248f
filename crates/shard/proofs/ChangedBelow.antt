-- A list whose elements are changed one after another.
use Rattle.std.proofs.Common.{zero, suc, ◌≡◌, ℕ, ◌+◌, ◌≤◌, List, [], ◌∷◌, length, map, Some, set, slice_get, ap, sym, refl, arith}
use Rattle.groups.proofs.Lists.{same_some}
pub use Rattle.shard.specs.Trims.{changed_first as changed_below}

module _ {X : Type 0} (change : X → X) where
  pub length-changed_below : (at : ℕ) (xs : List X) → length (changed_below change at xs) ≡ length xs
  length-changed_below (suc at) (x ∷ xs) = ap suc (length-changed_below at xs)
  length-changed_below at xs = refl

  -- from the place on they are as they were
  pub get-changed_below : (at : ℕ) (xs : List X) → slice_get (changed_below change at xs) at ≡ slice_get xs at
  get-changed_below (suc at) (x ∷ xs) = get-changed_below at xs
  get-changed_below at xs = refl

  next_below : (at : ℕ) (xs : List X) (x : X) → slice_get (changed_below change at xs) at ≡ Some x → set (changed_below change at xs) at (change x) ≡ changed_below change (suc at) xs
  next_below zero (first ∷ xs) x here = ap (λ y. change y ∷ xs) (sym (same_some here))
  next_below (suc at) (first ∷ xs) x here = ap (λ rest. change first ∷ rest) (next_below at xs x here)
  next_below at xs x here = absurd cc

  pub changed_below-next : (at : ℕ) (xs : List X) (x : X) → slice_get (changed_below change at xs) at ≡ Some x → set (changed_below change at xs) at (change x) ≡ changed_below change (at + 1) xs
  changed_below-next at xs x here = let next : at + 1 ≡ suc at = omega arith in rw next (next_below at xs x here)

  pub changed_below-all : (at : ℕ) (xs : List X) → length xs ≤ at → changed_below change at xs ≡ map change xs
  changed_below-all zero [] all = refl
  changed_below-all (suc at) [] all = refl
  changed_below-all (suc at) (x ∷ xs) all = ap (λ rest. change x ∷ rest) (changed_below-all at xs (omega arith))
  changed_below-all zero (x ∷ xs) all = absurd (omega arith)
