-- The listed pairs and the listed short set, by places
use Rattle.std.proofs.Common.{ℕ, ◌<◌, ◌≡◌, ◌≢◌, Bool, true, false, List, [], ◌∷◌, length, map, Option, Some, None, refl, sym, ap, inl, inr, arith, get_or, zero, suc, ◌||◌, rules}
use Rattle.std.specs.List.{AllByRecursion, IsDistinct}
use Rattle.std.proofs.lemmas.Bool.{cases_lt, cases_Bool, both_ways, or_cases, or_left, or_right}
use Rattle.std.proofs.lemmas.Map.Keys.{apart_from_distinct}
use Rattle.certificate.specs.Sides.{among}
use Rattle.augment.specs.Mates.{mate}
use Rattle.augment.specs.Listed.{pairs_of, is_short, short_of}
use Rattle.certificate.proofs.Members.{Tells}

-- a member has a place
pub place_of : {K : Type 0} (same : K → K → Bool) → Tells same → (x : K) (xs : List K) → among same x xs ≡ true → (i : ℕ) × (i < length xs) × (get_or xs i x ≡ x)
place_of same t x [] h = absurd (both_ways false refl h)
place_of same t x (y ∷ xs) h = elim (or_cases (same x y) (among same x xs) h) [
  | inl e ↦ (zero, omega arith, sym (t.one x y e))
  | inr r ↦ let p : (i : ℕ) × (i < length xs) × (get_or xs i x ≡ x) = place_of same t x xs r in let l : p.0 < length xs = p.1 in (suc p.0, omega arith, p.2)
]

pub among_at : {K : Type 0} (same : K → K → Bool) → Tells same → (xs : List K) (i : ℕ) (d : K) → i < length xs → among same (get_or xs i d) xs ≡ true
among_at same t [] i d h = absurd (omega arith)
among_at same t (x ∷ xs) zero d h = or_left (same x x) _ (t.itself x)
among_at same t (x ∷ xs) (suc i) d h = or_right (same (get_or xs i d) x) _ (among_at same t xs i d (omega arith))

flipped : {K : Type 0} (same : K → K → Bool) → Tells same → (x y : K) → same x y ≡ false → same y x ≡ false
flipped same t x y h = search (rules, cases_Bool, both_ways)

-- members at two places differ
pub apart_at : {K : Type 0} (same : K → K → Bool) → Tells same → (xs : List K) (i j : ℕ) (d : K) → IsDistinct same xs → i < length xs → j < length xs → i ≢ j
    → same (get_or xs i d) (get_or xs j d) ≡ false
apart_at same t xs i j d u il jl n = elim (cases_lt i j) [
  | inl l ↦ apart_from_distinct same xs i j d u l jl
  | inr l ↦ let m : j < i = omega arith in flipped same t (get_or xs j d) (get_or xs i d) (apart_from_distinct same xs j i d u m il)
]

-- what holds at each place with a mate holds of each pair, and the other way round
pub each_pair : {K : Type 0} (P : K × K → Type 0) (right left : List K) (ms : List (Option ℕ))
    → ((i j : ℕ) (d : K) → i < length left → mate ms i ≡ Some j → P (get_or left i d, get_or right j d)) → ((i j : ℕ) → mate ms i ≡ Some j → j < length right)
    → AllByRecursion P (pairs_of right left ms)
each_pair P right (a ∷ left) (None ∷ ms) h k = each_pair P right left ms (λ i j d l m. h (suc i) j d (omega arith) m) (λ i j m. k (suc i) j m)
each_pair P right (a ∷ left) (Some q ∷ ms) h k = (h 0 q a (omega arith) refl, each_pair P right left ms (λ i j d l m. h (suc i) j d (omega arith) m) (λ i j m. k (suc i) j m))
each_pair P right left ms h k = tt

pub pair_at : {K : Type 0} (P : K × K → Type 0) (right left : List K) (ms : List (Option ℕ)) → AllByRecursion P (pairs_of right left ms) → (i j : ℕ)
    → i < length left → mate ms i ≡ Some j → (a : K) × (b : K) × P (a, b) × ((d : K) → get_or left i d ≡ a) × (b ≡ get_or right j a)
pair_at P right [] ms all i j l m = absurd (omega arith)
pair_at P right (a ∷ left) (None ∷ ms) all (suc i) j l m = pair_at P right left ms all i j (omega arith) m
pair_at P right (a ∷ left) (Some q ∷ ms) all zero j l m = let qj : q ≡ j = cc in (a, get_or right q a, all.0, λ d. refl, ap (λ x. get_or right x a) qj)
pair_at P right (a ∷ left) (Some q ∷ ms) all (suc i) j l m = pair_at P right left ms all.1 i j (omega arith) m
pair_at P right (a ∷ left) ms all i j l m = let no : None ≡ Some j = m in cc

-- a left member of a pair has a place with a mate
pub place_of_left : {K : Type 0} (same : K → K → Bool) → Tells same → (x : K) (right left : List K) (ms : List (Option ℕ))
    → among same x (map (λ p. p.0) (pairs_of right left ms)) ≡ true → (i : ℕ) × (j : ℕ) × (i < length left) × (get_or left i x ≡ x) × (mate ms i ≡ Some j)
place_of_left same t x right (a ∷ left) (None ∷ ms) h =
    let p : (i : ℕ) × (j : ℕ) × (i < length left) × (get_or left i x ≡ x) × (mate ms i ≡ Some j) = place_of_left same t x right left ms h in
    let l : p.0 < length left = p.2 in
    (suc p.0, p.1, omega arith, p.3, p.4)
place_of_left same t x right (a ∷ left) (Some q ∷ ms) h = elim (or_cases (same x a) (among same x (map (λ p. p.0) (pairs_of right left ms))) h) [
  | inl e ↦ (zero, q, omega arith, sym (t.one x a e), refl)
  | inr r ↦
      let p : (i : ℕ) × (j : ℕ) × (i < length left) × (get_or left i x ≡ x) × (mate ms i ≡ Some j) = place_of_left same t x right left ms r in
      let l : p.0 < length left = p.2 in
      (suc p.0, p.1, omega arith, p.3, p.4)
]
place_of_left same t x right left ms h = absurd (both_ways false refl h)

pub left_at : {K : Type 0} (same : K → K → Bool) → Tells same → (right left : List K) (ms : List (Option ℕ)) (i j : ℕ) (d : K) → i < length left
    → mate ms i ≡ Some j → among same (get_or left i d) (map (λ p. p.0) (pairs_of right left ms)) ≡ true
left_at same t right [] ms i j d l m = absurd (omega arith)
left_at same t right (a ∷ left) (None ∷ ms) (suc i) j d l m = left_at same t right left ms i j d (omega arith) m
left_at same t right (a ∷ left) (Some q ∷ ms) zero j d l m = or_left (same a a) _ (t.itself a)
left_at same t right (a ∷ left) (Some q ∷ ms) (suc i) j d l m = or_right (same (get_or left i d) a) _ (left_at same t right left ms i j d (omega arith) m)
left_at same t right (a ∷ left) ms i j d l m = let no : None ≡ Some j = m in cc

-- the short set: what holds at each of its places holds of each member, and a member has such a place
pub each_short : {K : Type 0} (P : K → Type 0) (reached : List Bool) (left : List K) (ms : List (Option ℕ))
    → ((i : ℕ) (d : K) → i < length left → is_short reached (mate ms i) ≡ true → P (get_or left i d)) → AllByRecursion P (short_of reached left ms)
each_short P reached (a ∷ left) (m ∷ ms) h =
    let rest : AllByRecursion P (short_of reached left ms) = each_short P reached left ms (λ i d l s. h (suc i) d (omega arith) s) in
    elim (cases_Bool (is_short reached m)) [
      | inl e ↦ rw e (h 0 a (omega arith) e, rest)
      | inr e ↦ rw e rest
    ]
each_short P reached left ms h = tt

pub place_of_short : {K : Type 0} (same : K → K → Bool) → Tells same → (x : K) (reached : List Bool) (left : List K) (ms : List (Option ℕ))
    → among same x (short_of reached left ms) ≡ true → (i : ℕ) × (i < length left) × (get_or left i x ≡ x) × (is_short reached (mate ms i) ≡ true)
place_of_short same t x reached (a ∷ left) (m ∷ ms) h = elim (cases_Bool (is_short reached m)) [
  | inl e ↦
      let h' : (same x a || among same x (short_of reached left ms)) ≡ true = rw e at h in
      elim (or_cases (same x a) (among same x (short_of reached left ms)) h') [
        | inl s ↦ (zero, omega arith, sym (t.one x a s), e)
        | inr r ↦
            let p : (i : ℕ) × (i < length left) × (get_or left i x ≡ x) × (is_short reached (mate ms i) ≡ true) = place_of_short same t x reached left ms r in
            let l : p.0 < length left = p.1 in
            (suc p.0, omega arith, p.2, p.3)
      ]
  | inr e ↦
      let h' : among same x (short_of reached left ms) ≡ true = rw e at h in
      let p : (i : ℕ) × (i < length left) × (get_or left i x ≡ x) × (is_short reached (mate ms i) ≡ true) = place_of_short same t x reached left ms h' in
      let l : p.0 < length left = p.1 in
      (suc p.0, omega arith, p.2, p.3)
]
place_of_short same t x reached left ms h = absurd (both_ways false refl h)

pub short_at : {K : Type 0} (same : K → K → Bool) → Tells same → (reached : List Bool) (left : List K) (ms : List (Option ℕ)) (i : ℕ) (d : K)
    → length ms ≡ length left → i < length left → is_short reached (mate ms i) ≡ true → among same (get_or left i d) (short_of reached left ms) ≡ true
short_at same t reached (a ∷ left) (m ∷ ms) zero d n l s = let e : is_short reached m ≡ true = s in rw e (or_left (same a a) _ (t.itself a))
short_at same t reached (a ∷ left) (m ∷ ms) (suc i) d n l s =
    let rest : among same (get_or left i d) (short_of reached left ms) ≡ true = short_at same t reached left ms i d (omega arith) (omega arith) s in
    elim (cases_Bool (is_short reached m)) [
      | inl e ↦ rw e (or_right (same (get_or left i d) a) _ rest)
      | inr e ↦ rw e rest
    ]
short_at same t reached left ms i d n l s = absurd (omega arith)
