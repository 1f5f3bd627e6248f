-- Membership by a test, lists without repeats, and how long they can be
use Rattle.std.proofs.Common.{◌+◌, ◌≤◌, ◌≡◌, Bool, true, false, cond, not, List, [], ◌∷◌, length, refl, suc, arith, rules}
use Rattle.std.specs.List.{AllByRecursion, IsDistinct, filter, list_any}
use Rattle.std.proofs.lemmas.Bool.{cases_Bool, both_ways, or_cases, or_left, or_right}
use Rattle.std.proofs.lemmas.List.Filters.{length-filter_both}
use Rattle.certificate.specs.Sides.{among}

-- a test that tells when two are one
pub record Tells {K : Type 0} (same : K → K → Bool) : Type 0 where
  pub one : (x y : K) → same x y ≡ true → x ≡ y
  pub itself : (x : K) → same x x ≡ true

-- the list less the first x
unfoldable pub without : {K : Type 0} → (K → K → Bool) → K → List K → List K
without same x [] = []
without same x (y ∷ ys) = cond (same x y) ys (y ∷ without same x ys)

pub length-without : {K : Type 0} (same : K → K → Bool) (x : K) (ys : List K) → among same x ys ≡ true → suc (length (without same x ys)) ≡ length ys
unfolding without
length-without same x [] h = absurd (both_ways false refl h)
length-without same x (y ∷ ys) h = search (rules, cases_Bool, (length-without same x ys))

pub among-without : {K : Type 0} (same : K → K → Bool) → Tells same → (x q : K) (ys : List K) → same x q ≡ false → among same q ys ≡ true → among same q (without same x ys) ≡ true
unfolding without
among-without same t x q [] n h = h
among-without same t x q (y ∷ ys) n h = search (rules, cases_Bool, or_cases, both_ways, or_left, or_right, (among-without same t x q ys n))

-- what follows of each from two facts of each
both : {K : Type 0} (P Q R : K → Type 0) → ((x : K) → P x → Q x → R x) → (xs : List K) → AllByRecursion P xs → AllByRecursion Q xs → AllByRecursion R xs
both P Q R follows [] p q = tt
both P Q R follows (x ∷ xs) p q = (follows x p.0 q.0, both P Q R follows xs p.1 q.1)

-- no more than they can be chosen from
pub length-le_from_distinct : {K : Type 0} (same : K → K → Bool) → Tells same → (xs ys : List K) → IsDistinct same xs → AllByRecursion (λ x. among same x ys ≡ true) xs → length xs ≤ length ys
unfolding IsDistinct
length-le_from_distinct same t [] ys d h = omega arith
length-le_from_distinct same t (x ∷ xs) ys d h =
    let shorter : suc (length (without same x ys)) ≡ length ys = length-without same x ys h.0 in
    let rest : length xs ≤ length (without same x ys) = length-le_from_distinct same t xs (without same x ys) d.1 (both _ _ _ (λ q. among-without same t x q ys) xs d.0 h.1) in
    omega arith

-- a member that passes stands in the filter
pub among-filter : {K : Type 0} (same : K → K → Bool) → Tells same → (test : K → Bool) (x : K) (ys : List K) → among same x ys ≡ true → test x ≡ true → among same x (filter test ys) ≡ true
among-filter same t test x [] h p = h
among-filter same t test x (y ∷ ys) h p = search (rules, or_cases, or_left, cases_Bool, or_right, (among-filter same t test x ys))

-- a test that holds of a member holds of some member
pub any_from_among : {K : Type 0} (same : K → K → Bool) → Tells same → (test : K → Bool) (x : K) (ys : List K) → among same x ys ≡ true → test x ≡ true → list_any test ys ≡ true
any_from_among same t test x [] h p = h
any_from_among same t test x (y ∷ ys) h p = search (rules, or_cases, or_left, or_right, (any_from_among same t test x ys))

all_more : {K : Type 0} (same : K → K → Bool) (y : K) (ys xs : List K) → AllByRecursion (λ x. among same x ys ≡ true) xs → AllByRecursion (λ x. among same x (y ∷ ys) ≡ true) xs
all_more same y ys [] h = tt
all_more same y ys (x ∷ xs) h = (or_right (same x y) _ h.0, all_more same y ys xs h.1)

-- each member is a member
pub all_among : {K : Type 0} (same : K → K → Bool) → Tells same → (xs : List K) → AllByRecursion (λ x. among same x xs ≡ true) xs
all_among same t [] = tt
all_among same t (x ∷ xs) = (or_left (same x x) _ (t.itself x), all_more same x xs xs (all_among same t xs))

pub among_itself : {K : Type 0} (same : K → K → Bool) → Tells same → (xs ys : List K) → AllByRecursion (λ x. among same x ys ≡ true) xs
    → AllByRecursion (λ x. among same x (filter (λ y. among same y xs) ys) ≡ true) xs
among_itself same t xs ys h = both _ _ _ (λ x. among-filter same t (λ y. among same y xs) x ys) xs h (all_among same t xs)

-- those outside a choice are as many as the choice leaves
pub length-outside : {K : Type 0} (same : K → K → Bool) → Tells same → (xs ys : List K) → IsDistinct same xs → AllByRecursion (λ x. among same x ys ≡ true) xs
    → length (filter (λ y. not (among same y xs)) ys) + length xs ≤ length ys
length-outside same t xs ys d h =
    let inside : length xs ≤ length (filter (λ y. among same y xs) ys) = length-le_from_distinct same t xs (filter (λ y. among same y xs) ys) d (among_itself same t xs ys h) in
    let both : length (filter (λ y. among same y xs) ys) + length (filter (λ y. not (among same y xs)) ys)
    ≡ length ys = length-filter_both (λ y. among same y xs) (λ y. not (among same y xs)) (λ y. refl) ys in
    omega arith
