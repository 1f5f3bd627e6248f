-- What stands at a place of a list that is mapped or written.
use Rattle.std.proofs.Common.{◌≡◌, ◌≢◌, ℕ, zero, suc, List, [], ◌∷◌, refl, ap, ◌∙◌, Some, set, map, slice_get}
use Rattle.std.specs.Prelude.{option_map}
use Rattle.std.proofs.lemmas.Option.{slice_get-map}

pub slice_get-map_at : {X Y : Type 0} (f : X → Y) (xs : List X) (i : ℕ) (x : X) → slice_get xs i ≡ Some x → slice_get (map f xs) i ≡ Some (f x)
slice_get-map_at f xs i x here = slice_get-map f xs i ∙ ap (option_map f) here

pub slice_get-set_same : {X : Type 0} (xs : List X) (i : ℕ) (x y : X) → slice_get xs i ≡ Some x → slice_get (set xs i y) i ≡ Some y
slice_get-set_same [] i x y here = absurd cc
slice_get-set_same (z ∷ xs) zero x y here = refl
slice_get-set_same (z ∷ xs) (suc i) x y here = slice_get-set_same xs i x y here

pub slice_get-set_other : {X : Type 0} (xs : List X) (i j : ℕ) (y : X) → j ≢ i → slice_get (set xs i y) j ≡ slice_get xs j
slice_get-set_other [] i j y differ = refl
slice_get-set_other (z ∷ xs) zero zero y differ = absurd (differ refl)
slice_get-set_other (z ∷ xs) zero (suc j) y differ = refl
slice_get-set_other (z ∷ xs) (suc i) zero y differ = refl
slice_get-set_other (z ∷ xs) (suc i) (suc j) y differ = slice_get-set_other xs i j y (λ e. differ (ap suc e))
