-- Whether one of the groups is closed.
use Rattle.std.proofs.Common.{zero, suc, ◌≡◌, ◌∙◌, ℕ, ◌+◌, ◌<◌, List, [], ◌∷◌, Some, Bool, ◌||◌, true, false, ap, arith, inl, inr, refl, slice_get, sym}
use Rattle.std.specs.List.{list_any}
use Rattle.std.proofs.lemmas.Bool.{cases_lt}
use Rattle.groups.proofs.Lists.{same_some}
use Rattle.shard.specs.Group.{GroupState}

pub any-none : {X : Type 0} (p : X → Bool) (xs : List X) → ((at : ℕ) (x : X) → slice_get xs at ≡ Some x → p x ≡ false) → list_any p xs ≡ false
any-none p [] none = refl
any-none p (x ∷ xs) none = rw (none 0 x refl) (any-none p xs (λ at y here. none (suc at) y here))

or_true : (b : Bool) → (b || true) ≡ true
or_true true = refl
or_true false = refl

pub any-some : {X : Type 0} (p : X → Bool) (xs : List X) (at : ℕ) (x : X) → slice_get xs at ≡ Some x → p x ≡ true → list_any p xs ≡ true
any-some p [] at x here passes = absurd cc
any-some p (y ∷ xs) zero x here passes = rw (ap p (same_some here) ∙ passes) refl
any-some p (y ∷ xs) (suc at) x here passes = rw (any-some p xs at x here passes) (or_true (p y))

-- one more is open
pub open_more : (groups : List GroupState) (index : ℕ) → ((at : ℕ) (group : GroupState) → at < index → slice_get groups at ≡ Some group → group.closed ≡ false)
    → ((group : GroupState) → slice_get groups index ≡ Some group → group.closed ≡ false) → (at : ℕ) (group : GroupState) → at < index + 1 → slice_get groups at ≡ Some group → group.closed ≡ false
open_more groups index below this at group low here = elim (cases_lt at index) [
  | inl before ↦ below at group before here
  | inr after ↦
      let same : at ≡ index = omega arith in
      this group (ap (slice_get groups) (sym same) ∙ here)
]
