-- Counts, sums and searches in lists.
use Rattle.std.proofs.Common.{◌≡◌, ℕ, zero, suc, ◌+◌, ◌≤◌, Bool, true, false, cond, List, [], ◌∷◌, ◌++◌, refl, sym, ap, subst, ◌∙◌, arith, Option, Some, None, set, map, slice_get, length, is_some, inl, inr, ◌<◌, find, filter, count_by, sum_by, insert}
use Rattle.std.specs.List.{AllByRecursion, flat_map}
use Rattle.std.proofs.lemmas.List.Sums.{count_by-le-length, length-filter, sum_by-append, sum_by-cons, sum_by-insert, sum_by-set}
use Rattle.std.proofs.lemmas.Option.{get_or_from_slice_get, slice_get_within}
use Rattle.std.proofs.option.Match.{None-if_not_some}
use Rattle.groups.proofs.Lists.{count-cons, find-none, none_where, one_where}
use Rattle.std.proofs.lemmas.Bool.{cases_lt, true≢false, true_from_ne_false}

pub cond-le_one : (b : Bool) → cond {A = ℕ} b 1 0 ≤ 1
cond-le_one true = omega arith
cond-le_one false = omega arith

pub sum_by-flat_map : {X Y : Type 0} (w : Y → ℕ) (f : X → List Y) (xs : List X) → sum_by w (flat_map f xs) ≡ sum_by (λ x. sum_by w (f x)) xs
sum_by-flat_map w f [] = refl
sum_by-flat_map w f (x ∷ xs) =
    sum_by-append w (f x) (flat_map f xs)
    ∙ ap (λ n. sum_by w (f x) + n) (sum_by-flat_map w f xs)
    ∙ sym (sum_by-cons (λ y. sum_by w (f y)) x xs)

pub count_by-map : {X Y : Type 0} (p : Y → Bool) (h : X → Y) (xs : List X) → count_by p (map h xs) ≡ count_by (λ x. p (h x)) xs
count_by-map p h [] = refl
count_by-map p h (x ∷ xs) = count-cons p (h x) (map h xs) ∙ rw (count_by-map p h xs) refl ∙ sym (count-cons (λ z. p (h z)) x xs)

-- tests that answer alike count alike
pub count_by-same : {X : Type 0} (p q : X → Bool) (xs : List X) → ((x : X) → p x ≡ q x) → count_by p xs ≡ count_by q xs
count_by-same p q [] same = refl
count_by-same p q (x ∷ xs) same = count-cons p x xs ∙ rw (same x, count_by-same p q xs same) refl ∙ sym (count-cons q x xs)

-- a sum after a write over the element that is there
pub sum_by-set_at : {X : Type 0} (f : X → ℕ) (xs : List X) (i : ℕ) (x y : X) → slice_get xs i ≡ Some x → sum_by f (set xs i y) + f x ≡ sum_by f xs + f y
sum_by-set_at f xs i x y here =
    ap (λ z. sum_by f (set xs i y) + f z) (sym (get_or_from_slice_get xs i x x here))
    ∙ sum_by-set f xs i y x (slice_get_within xs i x here)

-- what holds at each place still holds after a write
pub each-set : {X : Type 0} (P : ℕ → X → Type 0) (xs : List X) (i : ℕ) (y : X) → P i y → ((j : ℕ) (z : X) → slice_get xs j ≡ Some z → P j z)
    → (j : ℕ) (z : X) → slice_get (set xs i y) j ≡ Some z → P j z
each-set P [] i y here others j z at = others j z at
each-set P (a ∷ xs) zero y here others zero z at = let same : y ≡ z = cc in subst (P 0) same here
each-set P (a ∷ xs) zero y here others (suc j) z at = others (suc j) z at
each-set P (a ∷ xs) (suc i) y here others zero z at = others 0 z at
each-set P (a ∷ xs) (suc i) y here others (suc j) z at = each-set (λ k. P (suc k)) xs i y here (λ k w. others (suc k) w) j z at

-- what is not below the other is as much or more
pub not_below : (a b : ℕ) → (a < b → ⊥) → b ≤ a
not_below a b never = elim (cases_lt a b) [ inl below ↦ absurd (never below) | inr past ↦ past ]

-- a search that finds nothing, and a count of nothing
pub count_by-missed : {X : Type 0} (p : X → Bool) (xs : List X) → find p xs ≡ None → count_by p xs ≡ 0
count_by-missed p [] missed = refl
count_by-missed p (x ∷ xs) missed = by_test (p x) refl missed (count_by-missed p xs)
  where
    by_test : (b : Bool) → p x ≡ b → cond b (Some x) (find p xs) ≡ None → (find p xs ≡ None → count_by p xs ≡ 0) → count_by p (x ∷ xs) ≡ 0
    by_test true passes missed rest = absurd cc
    by_test false fails missed rest = omega (arith, count-cons p x xs, none_where (p x) fails, rest missed)

pub count_by-found : {X : Type 0} (p : X → Bool) (xs : List X) → is_some (find p xs) ≡ true → 1 ≤ count_by p xs
count_by-found p xs found = not_below (count_by p xs) 1 (λ none. true≢false (sym found ∙ ap is_some (find-none p xs (omega arith))))

pub find-counted : {X : Type 0} (p : X → Bool) (xs : List X) → 1 ≤ count_by p xs → is_some (find p xs) ≡ true
find-counted p xs some = true_from_ne_false (is_some (find p xs)) (λ e. omega (arith, count_by-missed p xs (None-if_not_some _ e)))

-- facts of each element of lists in a row

pub each-append : {X : Type 0} (P : X → Type 0) (xs ys : List X) → AllByRecursion P xs → AllByRecursion P ys → AllByRecursion P (xs ++ ys)
each-append P [] ys left right = right
each-append P (x ∷ xs) ys left right = (left.0, each-append P xs ys left.1 right)

pub each-flat_map : {X Y : Type 0} (P : Y → Type 0) (f : X → List Y) (xs : List X) → ((at : ℕ) (x : X) → slice_get xs at ≡ Some x → AllByRecursion P (f x)) → AllByRecursion P (flat_map f xs)
each-flat_map P f [] each = tt
each-flat_map P f (x ∷ xs) each = each-append P (f x) (flat_map f xs) (each 0 x refl) (each-flat_map P f xs (λ at y here. each (suc at) y here))

pub each-from : {X : Type 0} (P : X → Type 0) (xs : List X) → ((at : ℕ) (x : X) → slice_get xs at ≡ Some x → P x) → AllByRecursion P xs
each-from P [] to = tt
each-from P (x ∷ xs) to = (to 0 x refl, each-from P xs (λ at y here. to (suc at) y here))

-- what of the element that a search found, where it found one
abbrev pub found_of : {X : Type 0} → (X → ℕ) → Option X → ℕ
found_of f None = 0
found_of f (Some x) = f x

-- where one element passes at most, a sum over those that pass is that of the element found
pub sum_by-passing : {X : Type 0} (p : X → Bool) (f : X → ℕ) (xs : List X) → count_by p xs ≤ 1 → sum_by (λ x. cond (p x) (f x) 0) xs ≡ found_of f (find p xs)
sum_by-passing p f [] once = refl
sum_by-passing p f (x ∷ xs) once = sum_by-cons (λ y. cond (p y) (f y) 0) x xs ∙ by_test (p x) refl (sum_by-passing p f xs)
  where
    by_test : (b : Bool) → p x ≡ b → (count_by p xs ≤ 1 → sum_by (λ y. cond (p y) (f y) 0) xs ≡ found_of f (find p xs))
        → cond b (f x) 0 + sum_by (λ y. cond (p y) (f y) 0) xs ≡ found_of f (cond b (Some x) (find p xs))
    by_test true passes rest =
        let none : count_by p xs ≡ 0 = omega (arith, count-cons p x xs, one_where (p x) passes) in
        omega (arith, rest (omega arith), ap (found_of f) (find-none p xs none))
    by_test false fails rest =
        let few : count_by p xs ≤ 1 = omega (arith, count-cons p x xs) in
        omega (arith, rest few)

-- sums over lists of lists, after one list is changed, put in or taken out

pub flat-set : {X Y : Type 0} (w : Y → ℕ) (f : X → List Y) (xs : List X) (i : ℕ) (x y : X) → slice_get xs i ≡ Some x
    → sum_by w (flat_map f (set xs i y)) + sum_by w (f x) ≡ sum_by w (flat_map f xs) + sum_by w (f y)
flat-set w f xs i x y here = omega (arith, sum_by-flat_map w f xs, sum_by-flat_map w f (set xs i y), sum_by-set_at (λ z. sum_by w (f z)) xs i x y here)

pub flat-insert : {X Y : Type 0} (w : Y → ℕ) (f : X → List Y) (xs : List X) (i : ℕ) (y : X) → sum_by w (flat_map f (insert xs i y)) ≡ sum_by w (flat_map f xs) + sum_by w (f y)
flat-insert w f xs i y = omega (arith, sum_by-flat_map w f xs, sum_by-flat_map w f (insert xs i y), sum_by-insert (λ z. sum_by w (f z)) xs i y)

-- sums of what is the same of each element
pub sum_by-same : {X : Type 0} (f g : X → ℕ) (xs : List X) → ((i : ℕ) (x : X) → slice_get xs i ≡ Some x → f x ≡ g x) → sum_by f xs ≡ sum_by g xs
sum_by-same f g [] same = refl
sum_by-same f g (x ∷ xs) same = omega (arith, sum_by-cons f x xs, sum_by-cons g x xs, same 0 x refl, sum_by-same f g xs (λ i y here. same (suc i) y here))

pub length-filter_most : {X : Type 0} (p : X → Bool) (xs : List X) → length (filter p xs) ≤ length xs
length-filter_most p xs = omega (arith, length-filter p xs, count_by-le-length p xs)

-- a sum of nothing
pub sum_by-none : {X : Type 0} (w : X → ℕ) (xs : List X) → ((at : ℕ) (x : X) → slice_get xs at ≡ Some x → w x ≡ 0) → sum_by w xs ≡ 0
sum_by-none w [] none = refl
sum_by-none w (x ∷ xs) none = omega (arith, sum_by-cons w x xs, none 0 x refl, sum_by-none w xs (λ at y here. none (suc at) y here))
