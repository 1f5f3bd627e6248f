-- Lists that show a filling in each place behind their end.
use Rattle.std.proofs.Common.{◌≡◌, ℕ, zero, suc, ◌<◌, ◌≤◌, ◌++◌, List, [], ◌∷◌, length, replicate, refl, ap, arith, true, false, None, Some, set, slice_get, sym, true≢false}
use Rattle.arena_core.specs.Filled.{filled}
use Rattle.arena_core.proofs.Lists.{not_below}

pub filled-get : {T : Type 0} (n : ℕ) (filling : T) (items : List T) (i : ℕ) (item : T) → slice_get items i ≡ Some item → i < n → slice_get (filled n filling items) i ≡ Some item
filled-get zero filling items i item here within = absurd (omega arith)
filled-get (suc n) filling [] i item here within = absurd cc
filled-get (suc n) filling (first ∷ items) zero item here within = here
filled-get (suc n) filling (first ∷ items) (suc i) item here within = filled-get n filling items i item here (omega arith)

pub filled-past : {T : Type 0} (n : ℕ) (filling : T) (items : List T) (i : ℕ) → length items ≤ i → i < n → slice_get (filled n filling items) i ≡ Some filling
filled-past zero filling items i past within = absurd (omega arith)
filled-past (suc n) filling [] zero past within = refl
filled-past (suc n) filling [] (suc i) past within = filled-past n filling [] i (omega arith) (omega arith)
filled-past (suc n) filling (first ∷ items) zero past within = absurd (omega arith)
filled-past (suc n) filling (first ∷ items) (suc i) past within = filled-past n filling items i (omega arith) (omega arith)

pub filled-none : {T : Type 0} (n : ℕ) (filling : T) (items : List T) (i : ℕ) → n ≤ i → slice_get (filled n filling items) i ≡ None
filled-none zero filling items i past = refl
filled-none (suc n) filling items zero past = absurd (omega arith)
filled-none (suc n) filling [] (suc i) past = filled-none n filling [] i (omega arith)
filled-none (suc n) filling (first ∷ items) (suc i) past = filled-none n filling items i (omega arith)

pub filled-set : {T : Type 0} (n : ℕ) (filling : T) (items : List T) (i : ℕ) (item : T) → i < length items → filled n filling (set items i item) ≡ set (filled n filling items) i item
filled-set zero filling items i item within = refl
filled-set (suc n) filling [] i item within = absurd (omega arith)
filled-set (suc n) filling (first ∷ items) zero item within = refl
filled-set (suc n) filling (first ∷ items) (suc i) item within = ap (◌∷◌ first) (filled-set n filling items i item (omega arith))

pub filled-push : {T : Type 0} (n : ℕ) (filling : T) (items : List T) → filled n filling (items ++ filling ∷ []) ≡ filled n filling items
filled-push zero filling items = refl
filled-push (suc n) filling [] = refl
filled-push (suc n) filling (first ∷ items) = ap (◌∷◌ first) (filled-push n filling items)

pub filled-empty : {T : Type 0} (n : ℕ) (filling : T) → filled n filling [] ≡ replicate n filling
filled-empty zero filling = refl
filled-empty (suc n) filling = ap (◌∷◌ filling) (filled-empty n filling)

-- a look-up that gave no item
pub no_item : {X : Type 0} (items : List X) (count place : ℕ) → count ≡ length items → (place < count → false ≡ true) → length items ≤ place
no_item items count place counted none = let past = not_below place count (λ below. true≢false (sym (none below))) in omega (arith, counted)
