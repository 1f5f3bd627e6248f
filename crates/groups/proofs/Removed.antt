-- What stands in a list after a removal, and how often.
use Rattle.std.proofs.Common.{◌≡◌, ℕ, zero, suc, ◌+◌, ◌<◌, ◌≤◌, Bool, true, false, cond, List, [], ◌∷◌, ◌⊎◌, inl, inr, refl, ap, ◌∙◌, arith, Some, set, slice_get, rules}
use Rattle.std.specs.Prelude.{count_by, insert, remove}
use Rattle.groups.proofs.Lists.{count-cons, none_where, same_some}

-- an old element, which stood at the same place or at the next
pub cases-remove : {X : Type 0} (xs : List X) (at other : ℕ) (y : X) → slice_get (remove xs at) other ≡ Some y
    → ((other < at) × (slice_get xs other ≡ Some y)) ⊎ ((at ≤ other) × (slice_get xs (suc other) ≡ Some y))
cases-remove [] zero other y there = absurd cc
cases-remove [] (suc at) other y there = absurd cc
cases-remove (x ∷ xs) zero other y there = inr (omega arith, there)
cases-remove (x ∷ xs) (suc at) zero y there = inl (omega arith, there)
cases-remove (x ∷ xs) (suc at) (suc other) y there = search (rules, (cases-remove xs at other y there))

-- where an old element stood, which was not the one that went
pub before-remove : {X : Type 0} (xs : List X) (at other : ℕ) (y : X) → slice_get (remove xs at) other ≡ Some y → (before : ℕ) × (before ≡ at → ⊥) × (slice_get xs before ≡ Some y)
before-remove xs at other y there = search (rules, cases-remove)

pub after-remove : {X : Type 0} (xs : List X) (at other : ℕ) (y : X) → slice_get xs other ≡ Some y → (other ≡ at → ⊥) → (now : ℕ) × (slice_get (remove xs at) now ≡ Some y)
after-remove [] at other y there apart = absurd cc
after-remove (x ∷ xs) zero zero y there apart = absurd (apart refl)
after-remove (x ∷ xs) zero (suc other) y there apart = (other, there)
after-remove (x ∷ xs) (suc at) zero y there apart = (0, there)
after-remove (x ∷ xs) (suc at) (suc other) y there apart = let later = after-remove xs at other y there (λ e. apart (ap suc e)) in (suc later.0, later.1)

-- what holds of each two holds after the removal
pub pairs-remove : {X : Type 0} (R : X → X → Type 0) (xs : List X) (at : ℕ)
    → ((low high : ℕ) (a b : X) → low < high → slice_get xs low ≡ Some a → slice_get xs high ≡ Some b → R a b)
    → (low high : ℕ) (a b : X) → low < high → slice_get (remove xs at) low ≡ Some a → slice_get (remove xs at) high ≡ Some b → R a b
pairs-remove R xs at pairs low high a b less at_low at_high = search (rules, cases-remove)

-- a write is a removal and an insertion
pub set-insert : {X : Type 0} (xs : List X) (at : ℕ) (x y : X) → slice_get xs at ≡ Some x → set xs at y ≡ insert (remove xs at) at y
set-insert [] at x y here = absurd cc
set-insert (z ∷ zs) zero x y here = refl
set-insert (z ∷ zs) (suc at) x y here = ap (λ l. z ∷ l) (set-insert zs at x y here)

module _ {X : Type 0} (p : X → Bool) where
  pub count-remove : (xs : List X) (at : ℕ) (x : X) → slice_get xs at ≡ Some x → count_by p xs ≡ cond {A = ℕ} (p x) 1 0 + count_by p (remove xs at)
  count-remove [] at x here = absurd cc
  count-remove (y ∷ xs) zero x here = count-cons p y xs ∙ ap (λ z. cond {A = ℕ} (p z) 1 0 + count_by p xs) (same_some here)
  count-remove (y ∷ xs) (suc at) x here = omega (arith, count-cons p y xs, count-remove xs at x here, count-cons p y (remove xs at))

  -- none passes, or one that does stands somewhere
  pub none_or_some : (xs : List X) → (count_by p xs ≡ 0) ⊎ ((at : ℕ) × (x : X) × (slice_get xs at ≡ Some x) × (p x ≡ true))
  none_or_some [] = inl refl
  none_or_some (x ∷ xs) = by_test (p x) refl (none_or_some xs)
    where
      by_test : (b : Bool) → p x ≡ b → (count_by p xs ≡ 0) ⊎ ((at : ℕ) × (x : X) × (slice_get xs at ≡ Some x) × (p x ≡ true))
          → (count_by p (x ∷ xs) ≡ 0) ⊎ ((at : ℕ) × (y : X) × (slice_get (x ∷ xs) at ≡ Some y) × (p y ≡ true))
      by_test true passes rest = inr (0, x, refl, passes)
      by_test false fails (inl none) = inl (omega (arith, count-cons p x xs, none_where (p x) fails))
      by_test false fails (inr (at, y, there, passes)) = inr (suc at, y, there, passes)
