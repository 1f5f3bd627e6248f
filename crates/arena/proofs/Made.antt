-- Lists that are made or read entry by entry.
use Rattle.std.proofs.Common.{◌≡◌, ℕ, suc, ◌+◌, ◌<◌, List, [], ◌∷◌, ◌++◌, length, map, get_or, ap, refl, arith, rules}
use Rattle.std.proofs.Math.Seq.{get_or-append_seam}
use Rattle.std.proofs.lemmas.Bool.{cases_eq}
use Rattle.std.proofs.lemmas.List.{get_or_append_left}

-- a fact of each place of a list, which goes on by one
pub push_each : {A : Type 0} (P : ℕ → A → Type 0) (xs : List A) (n : ℕ) (x : A) → length xs ≡ n → ((k : ℕ) (d : A) → k < n → P k (get_or xs k d)) → P n x
    → (k : ℕ) (d : A) → k < n + 1 → P k (get_or (xs ++ x ∷ []) k d)
push_each P xs n x long were one k d below = search (rules, cases_eq, get_or-append_seam, get_or_append_left)

pub same_both : {A B C : Type 0} (f : A → C) (g : B → C) (xs : List A) (ys : List B) → length xs ≡ length ys
    → ((k : ℕ) (d : A) (e : B) → k < length xs → f (get_or xs k d) ≡ g (get_or ys k e)) → map f xs ≡ map g ys
same_both f g [] [] long each = refl
same_both f g (x ∷ xs) (y ∷ ys) long each = rw (each 0 x y (omega arith)) (ap (λ l. g y ∷ l) (same_both f g xs ys (omega arith) (λ k d e h. each (suc k) d e (omega arith))))
same_both f g xs ys long each = absurd (omega arith)

-- what holds whatever stands in for a missing element holds where a list has one
pub with_first : {A : Type 0} (P : Type 0) (xs : List A) (k : ℕ) → k < length xs → (A → P) → P
with_first P [] k below holds = absurd (omega arith)
with_first P (x ∷ xs) k below holds = holds x
