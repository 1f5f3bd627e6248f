-- Maps by numbers before and after a change, and the rest of a list.
use Rattle.std.proofs.Common.{zero, suc, ◌≡◌, ◌≢◌, ℕ, cond, List, [], ◌∷◌, Option, Some, None, ap, ◌∙◌, drop, eqb, eq-eqb, nat_eq, refl, slice_get, rules}
use Rattle.std.specs.Ordering.{nat_cmp}
use Rattle.std.specs.Prelude.{Result, OnErr}
use Rattle.std.specs.Cmp.{nat_cmp_total, unsigned_tied}
use Rattle.std.specs.FinMap as map
use Rattle.std.specs.HashMap as hash
use Rattle.std.specs.HashMap.{HashMap}
use Rattle.std.specs.Map.{lookup}
use Rattle.std.proofs.lemmas.Bool.{ne_eqb}
use Rattle.std.proofs.lemmas.Option.{same_Some}

pub find-lookup : {X : Type 0} (q : ℕ) (es : List (ℕ × X)) → map.find nat_cmp q es ≡ lookup (eqb q) es
find-lookup q [] = refl
find-lookup q (e ∷ es) = rw (unsigned_tied q e.0) (ap (cond (eqb q e.0) (Some e.1)) (find-lookup q es))

pub same_nat_map : {X : Type 0} (m n : map.FinMap nat_cmp X) → ((q : ℕ) → map.get m q ≡ map.get n q) → m ≡ n
same_nat_map m n each = map.same_map nat_cmp_total map.nat_cmp-IsAntisymmetric m n each

pub get-insert : {X : Type 0} (m : map.FinMap nat_cmp X) (k : ℕ) (x : X) (q : ℕ) → map.get (map.insert m k x) q ≡ cond (eqb q k) (Some x) (map.get m q)
get-insert m k x q = map.get-insert nat_cmp_total m k x q ∙ rw (unsigned_tied q k) refl

pub get-remove : {X : Type 0} (m : map.FinMap nat_cmp X) (k q : ℕ) → map.get (map.remove m k) q ≡ cond (eqb q k) None (map.get m q)
get-remove m k q = map.get-remove nat_cmp_total m k q ∙ rw (unsigned_tied q k) refl

module _ {K X : Type 0} where
  -- the new look-up gives this at the key, and elsewhere what the old one gives
  pub record Sets (old new : K → Option X) (key : K) (value : Option X) : Type 0 where
    pub changed : new key ≡ value
    pub others : (other : K) → other ≢ key → new other ≡ old other

module _ {X S : Type 0} where
  pub Sets-number : (m n : HashMap ℕ X S) (key : ℕ) (value : Option X) → hash.Updates nat_eq m n key value → Sets (hash.get nat_eq m) (hash.get nat_eq n) key value
  Sets-number m n key value updates = search (rules, eq-eqb, ne_eqb)

pub drop_step : {X : Type 0} (xs : List X) (at : ℕ) (x : X) → slice_get xs at ≡ Some x → drop at xs ≡ x ∷ drop (suc at) xs
drop_step [] at x here = absurd cc
drop_step (y ∷ xs) zero x here = ap (λ z. z ∷ xs) (same_Some _ _ here)
drop_step (y ∷ xs) (suc at) x here = drop_step xs at x here

-- what holds anyway holds at an error
pub at_err : {T E P : Type 0} (r : Result T E) → P → OnErr r P
at_err r p = search rules
