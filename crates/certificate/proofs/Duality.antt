-- No plan has more pairs than a certificate shows
use Rattle.std.proofs.Common.{◌+◌, ◌≤◌, ◌≡◌, Bool, true, false, not, List, [], ◌∷◌, length, map, ◌⊎◌, inl, inr, arith, rules}
use Rattle.std.specs.List.{AllByRecursion, IsDistinct, filter}
use Rattle.std.proofs.lemmas.Bool.{cases_Bool}
use Rattle.std.proofs.lemmas.List.Elements.{recursion_from_All}
use Rattle.certificate.specs.Sides.{Sides, among, IsPlan, IsChoice, IsBest, IsCertificate, partners}
use Rattle.certificate.proofs.Members.{Tells, without, length-without, among-without, length-outside, among-filter, any_from_among}

less_left : {K : Type 0} (same : K → K → Bool) → Tells same → (x : K) (xs ys : List K) (pairs : List (K × K))
    → AllByRecursion (λ y. same x y ≡ false) (map (λ p. p.0) pairs) → AllByRecursion (λ p. (among same p.0 xs ≡ true) ⊎ (among same p.1 ys ≡ true)) pairs
    → AllByRecursion (λ p. (among same p.0 (without same x xs) ≡ true) ⊎ (among same p.1 ys ≡ true)) pairs
less_left same t x xs ys [] d h = tt
less_left same t x xs ys (p ∷ pairs) d h =
    (elim h.0 [ inl k ↦ inl (among-without same t x p.0 xs d.0 k) | inr k ↦ inr k ], less_left same t x xs ys pairs d.1 h.1)

less_right : {K : Type 0} (same : K → K → Bool) → Tells same → (y : K) (xs ys : List K) (pairs : List (K × K))
    → AllByRecursion (λ z. same y z ≡ false) (map (λ p. p.1) pairs) → AllByRecursion (λ p. (among same p.0 xs ≡ true) ⊎ (among same p.1 ys ≡ true)) pairs
    → AllByRecursion (λ p. (among same p.0 xs ≡ true) ⊎ (among same p.1 (without same y ys) ≡ true)) pairs
less_right same t y xs ys [] d h = tt
less_right same t y xs ys (p ∷ pairs) d h =
    (elim h.0 [ inl k ↦ inl k | inr k ↦ inr (among-without same t y p.1 ys d.0 k) ], less_right same t y xs ys pairs d.1 h.1)

-- where each pair has its left member in xs or its right member in ys, there are no more pairs than xs and ys have members
covered : {K : Type 0} (same : K → K → Bool) → Tells same → (xs ys : List K) (pairs : List (K × K)) → IsDistinct same (map (λ p. p.0) pairs)
    → IsDistinct same (map (λ p. p.1) pairs) → AllByRecursion (λ p. (among same p.0 xs ≡ true) ⊎ (among same p.1 ys ≡ true)) pairs
    → length pairs ≤ length xs + length ys
unfolding IsDistinct
covered same t xs ys [] d e h = omega arith
covered same t xs ys (p ∷ pairs) d e h = search (rules, without, length-without, less_left, less_right, (covered same t (without same p.0 xs) ys pairs d.1 e.1 (less_left same t p.0 xs ys pairs d.0 h.1)), (covered same t xs (without same p.1 ys) pairs d.1 e.1 (less_right same t p.1 xs ys pairs e.0 h.1)))

-- each pair's left member stands outside short, or its right member is a partner of short
each_covered : {K : Type 0} (same : K → K → Bool) → Tells same → (g : Sides K) (short : List K) (pairs : List (K × K))
    → AllByRecursion (λ x. among same x g.left ≡ true) (map (λ p. p.0) pairs) → AllByRecursion (λ x. among same x g.right ≡ true) (map (λ p. p.1) pairs)
    → AllByRecursion (λ p. g.compatible p.0 p.1 ≡ true) pairs
    → AllByRecursion (λ p. (among same p.0 (filter (λ y. not (among same y short)) g.left) ≡ true) ⊎ (among same p.1 (partners g short) ≡ true)) pairs
each_covered same t g short [] l r c = tt
each_covered same t g short (p ∷ pairs) l r c = search (rules, cases_Bool, among-filter, any_from_among, (each_covered same t g short pairs l.1 r.1 c.1))

pub at_most : {K : Type 0} (same : K → K → Bool) → Tells same → (g : Sides K) (short : List K) (pairs : List (K × K)) → IsChoice same g.left short
    → IsPlan same g pairs → length pairs + length short ≤ length g.left + length (partners g short)
at_most same t g short pairs s p =
    let outside : length (filter (λ y. not (among same y short)) g.left) + length short ≤ length g.left = length-outside same t short g.left s.distinct (recursion_from_All _ short s.within) in
    let most : length pairs ≤ length (filter (λ y. not (among same y short)) g.left) + length (partners g short) =
    covered same t (filter (λ y. not (among same y short)) g.left) (partners g short) pairs p.left.distinct p.right.distinct
    (each_covered same t g short pairs (recursion_from_All (λ x. among same x g.left ≡ true) (map (λ p. p.0) pairs) p.left.within)
    (recursion_from_All (λ x. among same x g.right ≡ true) (map (λ p. p.1) pairs) p.right.within)
    (recursion_from_All (λ p. g.compatible p.0 p.1 ≡ true) pairs p.compatible)) in
    omega arith

pub best_from_certificate : {K : Type 0} (same : K → K → Bool) → Tells same → (g : Sides K) (pairs : List (K × K)) (short : List K) → IsCertificate same g pairs short → IsBest same g pairs
best_from_certificate same t g pairs short c = search (rules, at_most)
