-- What stands in a list after a write, an insertion or a map, and how often.
use Rattle.std.proofs.Common.{◌≡◌, ℕ, zero, suc, ◌+◌, ◌<◌, ◌≤◌, Bool, true, false, cond, List, [], ◌∷◌, ◌++◌, ◌⊎◌, inl, inr, refl, sym, ap, subst, ◌∙◌, arith, length, insert, map, Some, None, get_or, set, slice_get, rules}
use Rattle.std.specs.Prelude.{find, count_by, remove}
use Rattle.std.proofs.lemmas.Option.{slice_get_read, slice_get_within}
use Rattle.std.proofs.lemmas.List.Sums.{sum_by-append, sum_by-cons}
use Rattle.std.proofs.lemmas.List.Folds.{find-append}

pub same_some : {X : Type 0} {x y : X} → Some x ≡ Some y → x ≡ y
same_some e = cc

-- an element stands at each place below the length
pub there_at : {X : Type 0} (xs : List X) (at : ℕ) → at < length xs → (x : X) × (slice_get xs at ≡ Some x)
there_at [] at low = absurd (omega arith)
there_at (x ∷ xs) zero low = (x, refl)
there_at (x ∷ xs) (suc at) low = there_at xs at (omega arith)

-- what is read where an element stands is that element
pub read_at : {X : Type 0} (xs : List X) (at : ℕ) (x read : X) → slice_get xs at ≡ Some x → read ≡ get_or xs at read → slice_get xs at ≡ Some read
read_at xs at x read here is = slice_get_read xs _ at read refl (slice_get_within xs at x here) is

-- what relates an element to the one that is written over it, and each to itself, relates old and new at each place
module _ {X : Type 0} (R : X → X → Type 0) (self : (x : X) → R x x) where
  pub before-set : (xs : List X) (at : ℕ) (x y : X) → slice_get xs at ≡ Some x → R x y → (other : ℕ) (new : X) → slice_get (set xs at y) other ≡ Some new
      → (old : X) × (slice_get xs other ≡ Some old) × R old new
  before-set [] at x y here r other new there = absurd cc
  before-set (z ∷ zs) zero x y here r zero new there = (x, here, subst (R x) (same_some there) r)
  before-set (z ∷ zs) (suc at) x y here r (suc other) new there = before-set zs at x y here r other new there
  before-set xs at x y here r other new there = (new, there, self new)

  pub after-set : (xs : List X) (at : ℕ) (x y : X) → slice_get xs at ≡ Some x → R x y → (other : ℕ) (old : X) → slice_get xs other ≡ Some old
      → (new : X) × (slice_get (set xs at y) other ≡ Some new) × R old new
  after-set [] at x y here r other old there = absurd cc
  after-set (z ∷ zs) zero x y here r zero old there = (y, refl, subst (λ w. R w y) (same_some (sym here ∙ there)) r)
  after-set (z ∷ zs) (suc at) x y here r (suc other) old there = after-set zs at x y here r other old there
  after-set xs at x y here r other old there = (old, there, self old)

-- the new element, or an old one at another place
pub cases-set : {X : Type 0} (xs : List X) (at : ℕ) (y : X) (other : ℕ) (z : X) → slice_get (set xs at y) other ≡ Some z → ((other ≡ at) × (y ≡ z)) ⊎ ((other ≡ at → ⊥) × (slice_get xs other ≡ Some z))
cases-set [] at y other z there = absurd cc
cases-set (w ∷ ws) zero y zero z there = inl (refl, same_some there)
cases-set (w ∷ ws) zero y (suc other) z there = inr ((λ e. omega arith), there)
cases-set (w ∷ ws) (suc at) y zero z there = inr ((λ e. omega arith), there)
cases-set (w ∷ ws) (suc at) y (suc other) z there = search (rules, (cases-set ws at y other z there))

pub get-set : {X : Type 0} (xs : List X) (at : ℕ) (x y : X) → slice_get xs at ≡ Some x → slice_get (set xs at y) at ≡ Some y
get-set [] at x y here = absurd cc
get-set (z ∷ zs) zero x y here = refl
get-set (z ∷ zs) (suc at) x y here = get-set zs at x y here

pub set-same : {X : Type 0} (xs : List X) (at : ℕ) (x : X) → slice_get xs at ≡ Some x → set xs at x ≡ xs
set-same [] at x here = refl
set-same (y ∷ ys) zero x here = ap (λ z. z ∷ ys) (sym (same_some here))
set-same (y ∷ ys) (suc at) x here = ap (λ zs. y ∷ zs) (set-same ys at x here)

-- what stands in a list that is mapped comes of what stood there
pub before-map : {X Y : Type 0} (f : X → Y) (xs : List X) (at : ℕ) (y : Y) → slice_get (map f xs) at ≡ Some y → (x : X) × (slice_get xs at ≡ Some x) × (f x ≡ y)
before-map f [] at y there = absurd cc
before-map f (x ∷ xs) zero y there = (x, refl, same_some there)
before-map f (x ∷ xs) (suc at) y there = before-map f xs at y there

-- what stands in one of two lists stands in both together

pub get_left : {X : Type 0} (xs ys : List X) (at : ℕ) (x : X) → slice_get xs at ≡ Some x → slice_get (xs ++ ys) at ≡ Some x
get_left [] ys at x here = absurd cc
get_left (z ∷ xs) ys zero x here = here
get_left (z ∷ xs) ys (suc at) x here = get_left xs ys at x here

pub get_right : {X : Type 0} (xs ys : List X) (at : ℕ) (y : X) → slice_get ys at ≡ Some y → (there : ℕ) × (slice_get (xs ++ ys) there ≡ Some y)
get_right [] ys at y here = (at, here)
get_right (z ∷ xs) ys at y here = let rest = get_right xs ys at y here in (suc rest.0, rest.1)

pub in_either : {X : Type 0} (xs ys : List X) (at : ℕ) (x : X) → slice_get (xs ++ ys) at ≡ Some x → (slice_get xs at ≡ Some x) ⊎ ((later : ℕ) × (slice_get ys later ≡ Some x))
in_either [] ys at x there = inr (at, there)
in_either (z ∷ xs) ys zero x there = inl there
in_either (z ∷ xs) ys (suc at) x there = in_either xs ys at x there

-- an insertion

pub cases-insert : {X : Type 0} (xs : List X) (at : ℕ) (x : X) → at ≤ length xs → (other : ℕ) (y : X) → slice_get (insert xs at x) other ≡ Some y
    → ((other < at) × (slice_get xs other ≡ Some y)) ⊎ (((other ≡ at) × (x ≡ y)) ⊎ ((before : ℕ) × (other ≡ before + 1) × (at ≤ before) × (slice_get xs before ≡ Some y)))
cases-insert xs zero x within zero y there = inr (inl (refl, same_some there))
cases-insert xs zero x within (suc other) y there = inr (inr (other, omega arith, omega arith, there))
cases-insert [] (suc at) x within other y there = absurd (omega arith)
cases-insert (z ∷ zs) (suc at) x within zero y there = inl (omega arith, there)
cases-insert (z ∷ zs) (suc at) x within (suc other) y there = elim (cases-insert zs at x (omega arith) other y there) [
  | inl low ↦ inl (let less : other < at = low.0 in omega arith, low.1)
  | inr (inl here) ↦ inr (inl (ap suc here.0, here.1))
  | inr (inr high) ↦ inr (inr (let next : other ≡ high.0 + 1 = high.1 in let above : at ≤ high.0 = high.2 in (suc high.0, omega arith, omega arith, high.3)))
]

pub get-insert : {X : Type 0} (xs : List X) (at : ℕ) (x : X) → at ≤ length xs → slice_get (insert xs at x) at ≡ Some x
get-insert xs zero x within = refl
get-insert [] (suc at) x within = absurd (omega arith)
get-insert (z ∷ zs) (suc at) x within = get-insert zs at x (omega arith)

pub after-insert : {X : Type 0} (xs : List X) (at : ℕ) (x : X) (other : ℕ) (y : X) → slice_get xs other ≡ Some y → (now : ℕ) × (slice_get (insert xs at x) now ≡ Some y)
after-insert xs zero x other y there = (suc other, there)
after-insert [] (suc at) x other y there = absurd cc
after-insert (z ∷ zs) (suc at) x zero y there = (0, there)
after-insert (z ∷ zs) (suc at) x (suc other) y there = let later = after-insert zs at x other y there in (suc later.0, later.1)

pub length_insert : {X : Type 0} (xs : List X) (at : ℕ) (x : X) → length (insert xs at x) ≡ length xs + 1
length_insert xs zero x = omega arith
length_insert [] (suc at) x = refl
length_insert (z ∷ zs) (suc at) x = let rest : length (insert zs at x) ≡ length zs + 1 = length_insert zs at x in omega arith

-- what holds of each two, and of the new element and each, holds after the insertion
pub pairs-insert : {X : Type 0} (R : X → X → Type 0) (xs : List X) (at : ℕ) (x : X) → at ≤ length xs
    → ((low high : ℕ) (a b : X) → low < high → slice_get xs low ≡ Some a → slice_get xs high ≡ Some b → R a b)
    → ((other : ℕ) (y : X) → other < at → slice_get xs other ≡ Some y → R y x)
    → ((other : ℕ) (y : X) → at ≤ other → slice_get xs other ≡ Some y → R x y)
    → (low high : ℕ) (a b : X) → low < high → slice_get (insert xs at x) low ≡ Some a → slice_get (insert xs at x) high ≡ Some b → R a b
pairs-insert R xs at x within pairs before behind low high a b less at_low at_high = search (rules, cases-insert)

-- the lists round the element at a place
pub record IsSplit {X : Type 0} (xs : List X) (at : ℕ) (x : X) : Type 0 where
  pub left : List X
  pub right : List X
  pub whole : xs ≡ left ++ x ∷ right
  pub after_set : (y : X) → set xs at y ≡ left ++ y ∷ right
  pub after_remove : remove xs at ≡ left ++ right

pub split_at : {X : Type 0} (xs : List X) (at : ℕ) (x : X) → slice_get xs at ≡ Some x → IsSplit xs at x
split_at [] at x here = absurd cc
split_at (y ∷ xs) zero x here = record { left = []; right = xs; whole = ap (λ z. z ∷ xs) (same_some here); after_set = λ z. refl; after_remove = refl }
split_at (y ∷ xs) (suc at) x here =
    let rest : IsSplit xs at x = split_at xs at x here in
    record {
      left = y ∷ rest.left;
      right = rest.right;
      whole = ap (λ zs. y ∷ zs) rest.whole;
      after_set = λ z. ap (λ zs. y ∷ zs) (rest.after_set z);
      after_remove = ap (λ zs. y ∷ zs) rest.after_remove;
    }

-- the lists before and after a place
pub record IsParted {X : Type 0} (xs : List X) (at : ℕ) : Type 0 where
  pub left : List X
  pub right : List X
  pub whole : xs ≡ left ++ right
  pub after_insert : (x : X) → insert xs at x ≡ left ++ x ∷ right

pub part_at : {X : Type 0} (xs : List X) (at : ℕ) → IsParted xs at
part_at xs zero = record { left = []; right = xs; whole = refl; after_insert = λ x. refl }
part_at [] (suc at) = record { left = []; right = []; whole = refl; after_insert = λ x. refl }
part_at (y ∷ xs) (suc at) =
    let rest : IsParted xs at = part_at xs at in
    record {
      left = y ∷ rest.left;
      right = rest.right;
      whole = ap (λ zs. y ∷ zs) rest.whole;
      after_insert = λ x. ap (λ zs. y ∷ zs) (rest.after_insert x);
    }

-- counts

pub one_where : (b : Bool) → b ≡ true → cond {A = ℕ} b 1 0 ≡ 1
one_where b e = rw e refl

pub none_where : (b : Bool) → b ≡ false → cond {A = ℕ} b 1 0 ≡ 0
none_where b e = rw e refl

module _ {X : Type 0} (p : X → Bool) where
  pub count-append : (xs ys : List X) → count_by p (xs ++ ys) ≡ count_by p xs + count_by p ys
  count-append xs ys = sum_by-append (λ x. cond (p x) 1 0) xs ys

  pub count-cons : (x : X) (xs : List X) → count_by p (x ∷ xs) ≡ cond (p x) 1 0 + count_by p xs
  count-cons x xs = sum_by-cons (λ y. cond (p y) 1 0) x xs

  pub count-none : (xs : List X) → ((at : ℕ) (x : X) → slice_get xs at ≡ Some x → p x ≡ false) → count_by p xs ≡ 0
  count-none [] none = refl
  count-none (x ∷ xs) none = omega (arith, count-cons x xs, none_where (p x) (none 0 x refl), count-none xs (λ at y here. none (suc at) y here))

  pub count-some : (xs : List X) (at : ℕ) (x : X) → slice_get xs at ≡ Some x → p x ≡ true → 1 ≤ count_by p xs
  count-some [] at x here passes = absurd cc
  count-some (y ∷ xs) zero x here passes = omega (arith, count-cons y xs, one_where (p y) (ap p (same_some here) ∙ passes))
  count-some (y ∷ xs) (suc at) x here passes = omega (arith, count-cons y xs, count-some xs at x here passes)

  -- of two places, one at most passes
  pub count-two : (xs : List X) (low high : ℕ) (x y : X) → low < high → slice_get xs low ≡ Some x → slice_get xs high ≡ Some y → p x ≡ true → p y ≡ true → 2 ≤ count_by p xs
  count-two [] low high x y less here there passes passes' = absurd cc
  count-two (z ∷ xs) low zero x y less here there passes passes' = absurd (omega arith)
  count-two (z ∷ xs) zero (suc high) x y less here there passes passes' = omega (arith, count-cons z xs, one_where (p z) (ap p (same_some here) ∙ passes), count-some xs high y there passes')
  count-two (z ∷ xs) (suc low) (suc high) x y less here there passes passes' = omega (arith, count-cons z xs, count-two xs low high x y (omega arith) here there passes passes')

  pub count-set : (xs : List X) (at : ℕ) (x y : X) → slice_get xs at ≡ Some x → p x ≡ p y → count_by p (set xs at y) ≡ count_by p xs
  count-set [] at x y here same = absurd cc
  count-set (z ∷ xs) zero x y here same = count-cons y xs ∙ ap (λ b. cond b 1 0 + count_by p xs) (sym same ∙ ap p (sym (same_some here))) ∙ sym (count-cons z xs)
  count-set (z ∷ xs) (suc at) x y here same = count-cons z (set xs at y) ∙ ap (λ n. cond (p z) 1 0 + n) (count-set xs at x y here same) ∙ sym (count-cons z xs)

  pub count-insert : (xs : List X) (at : ℕ) (x : X) → count_by p (insert xs at x) ≡ cond (p x) 1 0 + count_by p xs
  count-insert xs zero x = count-cons x xs
  count-insert [] (suc at) x = count-cons x []
  count-insert (z ∷ xs) (suc at) x = omega (arith, count-cons z (insert xs at x), count-insert xs at x, count-cons z xs)

  -- searches

  -- what is found stands somewhere, and passes
  pub found_at : (xs : List X) (x : X) → find p xs ≡ Some x → ((at : ℕ) × (slice_get xs at ≡ Some x)) × (p x ≡ true)
  found_at [] x e = absurd cc
  found_at (y ∷ xs) x e = by_test (p y) refl e (found_at xs x)
    where
      by_test : (b : Bool) → p y ≡ b → cond b (Some y) (find p xs) ≡ Some x → (find p xs ≡ Some x → ((at : ℕ) × (slice_get xs at ≡ Some x)) × (p x ≡ true))
          → ((at : ℕ) × (slice_get (y ∷ xs) at ≡ Some x)) × (p x ≡ true)
      by_test true passes here rest = let same : y ≡ x = cc in ((0, here), ap p (sym same) ∙ passes)
      by_test false fails here rest = let later = rest here in ((suc later.0.0, later.0.1), later.1)

  pub find-none : (xs : List X) → count_by p xs ≡ 0 → find p xs ≡ None
  find-none [] none = refl
  find-none (x ∷ xs) none = search (rules, count-cons, one_where, (find-none xs))

  pub find-here : (xs ys : List X) (x : X) → p x ≡ true → count_by p xs ≡ 0 → find p (xs ++ x ∷ ys) ≡ Some x
  find-here xs ys x passes none = find-append p xs (x ∷ ys) ∙ rw (find-none xs none, passes) refl

  pub find-elsewhere : (xs ys : List X) (x : X) → p x ≡ false → find p (xs ++ x ∷ ys) ≡ find p (xs ++ ys)
  find-elsewhere xs ys x fails = find-append p xs (x ∷ ys) ∙ rw fails (sym (find-append p xs ys))

-- the last element

pub get-last : {X : Type 0} (xs : List X) (x : X) → slice_get (xs ++ x ∷ []) (length xs) ≡ Some x
get-last [] x = refl
get-last (y ∷ xs) x = get-last xs x

pub remove-last : {X : Type 0} (xs : List X) (x : X) → remove (xs ++ x ∷ []) (length xs) ≡ xs
remove-last [] x = refl
remove-last (y ∷ xs) x = ap (λ ys. y ∷ ys) (remove-last xs x)
