-- Elements by ascending numbers: which they are, and where one more would stand.
use Rattle.std.proofs.Common.{zero, suc, ◌≡◌, ℕ, ◌<◌, ◌≤◌, Bool, true, false, cond, List, [], ◌∷◌, length, insert, Some, set, slice_get, ap, sym, subst, ◌∙◌, refl, inl, inr, ◌⊎◌, arith, rules, nat_lt, remove}
use Rattle.std.specs.List.Sorted.{IsPermutation}
use Rattle.std.proofs.lemmas.Bool.{cases_eq, cases_lt}
use Rattle.std.proofs.lemmas.Bool.Decides.{nat_tests}
use Rattle.std.proofs.lemmas.List.Sorted.{IsPermutation-cons, IsPermutation-insert, IsPermutation-refl, IsPermutation-trans}
use Rattle.groups.proofs.Lists.{after-insert, cases-insert, cases-set, get-insert, get-set, pairs-insert, same_some}
use Rattle.pool.specs.Ranked.{arranged, lower}

-- the element stands somewhere in the list
abbrev pub IsIn : {X : Type 0} → List X → X → Type 0
IsIn xs x = (at : ℕ) × (slice_get xs at ≡ Some x)

pub remove-insert : {X : Type 0} (xs : List X) (at : ℕ) (x : X) → at ≤ length xs → remove (insert xs at x) at ≡ xs
remove-insert xs zero x within = refl
remove-insert [] (suc at) x within = absurd (omega arith)
remove-insert (y ∷ xs) (suc at) x within = ap (λ ys. y ∷ ys) (remove-insert xs at x (omega arith))

pub get-set_other : {X : Type 0} (xs : List X) (at other : ℕ) (y : X) → (other ≡ at → ⊥) → slice_get (set xs at y) other ≡ slice_get xs other
get-set_other (x ∷ xs) zero zero y apart = absurd (apart refl)
get-set_other (x ∷ xs) (suc at) (suc other) y apart = get-set_other xs at other y (λ e. apart (ap suc e))
get-set_other xs at other y apart = refl

module _ {X : Type 0} (key : X → ℕ) where
  -- the numbers ascend
  abbrev pub AreUp : List X → Type 0
  AreUp xs = (low high : ℕ) (a b : X) → low < high → slice_get xs low ≡ Some a → slice_get xs high ≡ Some b → key a < key b

  -- each number stands once
  abbrev pub AreApart : List X → Type 0
  AreApart xs = (i j : ℕ) (a b : X) → slice_get xs i ≡ Some a → slice_get xs j ≡ Some b → key a ≡ key b → i ≡ j

  tail-up : (x : X) (xs : List X) → AreUp (x ∷ xs) → AreUp xs
  tail-up x xs up low high a b less at_low at_high = up (suc low) (suc high) a b (omega arith) at_low at_high

  -- in ascending order a number stands once
  pub one_place : (xs : List X) → AreUp xs → AreApart xs
  one_place xs up i j a b at_i at_j same = search (rules, cases_lt, cases_eq)

  -- lists in ascending order with the same elements are one
  pub same_up : (xs ys : List X) → AreUp xs → AreUp ys → ((z : X) → IsIn xs z → IsIn ys z) → ((z : X) → IsIn ys z → IsIn xs z) → xs ≡ ys
  same_up [] [] up up' into from = refl
  same_up [] (y ∷ ys) up up' into from = absurd (let found = from y (0, refl) in let e = found.1 in cc)
  same_up (x ∷ xs) [] up up' into from = absurd (let found = into x (0, refl) in let e = found.1 in cc)
  same_up (x ∷ xs) (y ∷ ys) up up' into from =
      let same : x ≡ y = first (into x (0, refl)) (from y (0, refl)) in
      ap (λ z. z ∷ xs) same ∙ ap (λ zs. y ∷ zs) (same_up xs ys (tail-up x xs up) (tail-up y ys up')
      (λ z there. later y ys z (into z (suc there.0, there.1)) (λ e. let less = up 0 (suc there.0) x z (omega arith) refl there.1 in let k = ap key (same ∙ sym e) in omega arith))
      (λ z there. later x xs z (from z (suc there.0, there.1)) (λ e. let less = up' 0 (suc there.0) y z (omega arith) refl there.1 in let k = ap key (sym same ∙ sym e) in omega arith)))
    where
      later : (w : X) (ws : List X) (z : X) → IsIn (w ∷ ws) z → (z ≡ w → ⊥) → IsIn ws z
      later w ws z (zero, there) apart = absurd (apart (sym (same_some there)))
      later w ws z (suc at, there) apart = (at, there)

      first : IsIn (y ∷ ys) x → IsIn (x ∷ xs) y → x ≡ y
      first (zero, there) found = sym (same_some there)
      first (suc at, there) (zero, there') = same_some there'
      first (suc at, there) (suc at', there') = absurd (let low = up' 0 (suc at) y x (omega arith) refl there in let low' = up 0 (suc at') x y (omega arith) refl there' in omega arith)

  -- where a number would stand

  pub lower-within : (number : ℕ) (xs : List X) → lower key number xs ≤ length xs
  lower-within number [] = omega arith
  lower-within number (x ∷ xs) = by_test (nat_lt (key x) number) (lower-within number xs)
    where
      by_test : (b : Bool) → lower key number xs ≤ length xs → cond b (suc (lower key number xs)) 0 ≤ suc (length xs)
      by_test true rest = omega arith
      by_test false rest = omega arith

  pub lower-before : (number : ℕ) (xs : List X) (at : ℕ) (x : X) → at < lower key number xs → slice_get xs at ≡ Some x → key x < number
  lower-before number [] at x below there = absurd cc
  lower-before number (y ∷ ys) at x below there = by_test (nat_lt (key y) number) refl at below there (λ at. lower-before number ys at x)
    where
      by_test : (b : Bool) → nat_lt (key y) number ≡ b → (at : ℕ) → at < cond b (suc (lower key number ys)) 0 → slice_get (y ∷ ys) at ≡ Some x
          → ((at : ℕ) → at < lower key number ys → slice_get ys at ≡ Some x → key x < number) → key x < number
      by_test true is zero below there rest = let e = ap key (same_some there) in let less : key y < number = grind (arith, nat_tests) in omega arith
      by_test true is (suc at) below there rest = rest at (omega arith) there
      by_test false is at below there rest = absurd (omega arith)

  pub lower-after : (number : ℕ) (xs : List X) → AreUp xs → (at : ℕ) (x : X) → lower key number xs ≤ at → slice_get xs at ≡ Some x → number ≤ key x
  lower-after number [] up at x above there = absurd cc
  lower-after number (y ∷ ys) up at x above there = by_test (nat_lt (key y) number) refl at above there (λ at. lower-after number ys (tail-up y ys up) at x)
    where
      by_test : (b : Bool) → nat_lt (key y) number ≡ b → (at : ℕ) → cond b (suc (lower key number ys)) 0 ≤ at → slice_get (y ∷ ys) at ≡ Some x
          → ((at : ℕ) → lower key number ys ≤ at → slice_get ys at ≡ Some x → number ≤ key x) → number ≤ key x
      by_test true is zero above there rest = absurd (omega arith)
      by_test true is (suc at) above there rest = rest at (omega arith) there
      by_test false is zero above there rest = let e = ap key (same_some there) in let more : number ≤ key y = grind (arith, nat_tests) in omega arith
      by_test false is (suc at) above there rest = let less = up 0 (suc at) y x (omega arith) refl there in let more : number ≤ key y = grind (arith, nat_tests) in omega arith

  -- the elements are those that there were

  pub arranged-in : (xs : List X) (z : X) → IsIn (arranged key xs) z → IsIn xs z
  arranged-in [] z there = absurd (let e = there.1 in cc)
  arranged-in (x ∷ xs) z there = elim (cases-insert (arranged key xs) (lower key (key x) (arranged key xs)) x (lower-within (key x) (arranged key xs)) there.0 z there.1) [
    | inl low ↦ let found = arranged-in xs z (there.0, low.1) in (suc found.0, found.1)
    | inr (inl now) ↦ (0, ap Some now.1)
    | inr (inr high) ↦ let found = arranged-in xs z (high.0, high.3) in (suc found.0, found.1)
  ]

  pub in-arranged : (xs : List X) (z : X) → IsIn xs z → IsIn (arranged key xs) z
  in-arranged [] z there = absurd (let e = there.1 in cc)
  in-arranged (x ∷ xs) z (zero, there) = (lower key (key x) (arranged key xs), get-insert (arranged key xs) (lower key (key x) (arranged key xs)) x (lower-within (key x) (arranged key xs)) ∙ there)
  in-arranged (x ∷ xs) z (suc at, there) = let found = in-arranged xs z (at, there) in after-insert (arranged key xs) (lower key (key x) (arranged key xs)) x found.0 z found.1

  pub IsPermutation-arranged : (xs : List X) → IsPermutation xs (arranged key xs)
  IsPermutation-arranged [] = IsPermutation-refl []
  IsPermutation-arranged (x ∷ xs) = IsPermutation-trans (x ∷ xs) (x ∷ arranged key xs) (arranged key (x ∷ xs))
      (IsPermutation-cons x xs (arranged key xs) (IsPermutation-arranged xs)) (IsPermutation-insert (arranged key xs) (lower key (key x) (arranged key xs)) x)

  up-more : (x : X) (xs : List X) → AreApart (x ∷ xs) → AreUp (arranged key xs) → AreUp (arranged key (x ∷ xs))
  up-more x xs apart rest = pairs-insert (λ a b. key a < key b) (arranged key xs) (lower key (key x) (arranged key xs)) x (lower-within (key x) (arranged key xs)) rest
      (lower-before (key x) (arranged key xs))
      (λ at y above there.
      let least = lower-after (key x) (arranged key xs) rest at y above there in
      let found = arranged-in xs y (at, there) in
      elim (cases_eq (key x) (key y)) [
        | inl same ↦ absurd (let e = apart 0 (suc found.0) x y refl found.1 same in omega arith)
        | inr other ↦ omega arith
      ])

  pub AreUp-arranged : (xs : List X) → AreApart xs → AreUp (arranged key xs)
  AreUp-arranged [] apart = λ low high a b less at_low at_high. absurd cc
  AreUp-arranged (x ∷ xs) apart = up-more x xs apart (AreUp-arranged xs (λ i j a b at_i at_j same. let e = apart (suc i) (suc j) a b at_i at_j same in omega arith))

  -- where one would stand whose number is new, the others are higher
  pub place-after : (ys : List X) (x : X) → AreApart ys → ((z : X) → IsIn ys z → key z ≡ key x → ⊥) → (at : ℕ) (y : X)
      → lower key (key x) (arranged key ys) ≤ at → slice_get (arranged key ys) at ≡ Some y → key x < key y
  place-after ys x apart new at y above there = search (rules, lower-after, AreUp-arranged, cases_eq, arranged-in)

  -- one element more, whose number is new
  module _ (xs ys : List X) (x : X) (apart : AreApart xs) (apart' : AreApart ys) (new : (z : X) → IsIn ys z → key z ≡ key x → ⊥)
      (of : (z : X) → IsIn xs z → (x ≡ z) ⊎ IsIn ys z) (has : IsIn xs x) (old : (z : X) → IsIn ys z → IsIn xs z) where
    abbrev its_place : ℕ
    its_place = lower key (key x) (arranged key ys)

    pub arranged-more : arranged key xs ≡ insert (arranged key ys) its_place x
    arranged-more = same_up (arranged key xs) (insert (arranged key ys) its_place x) (AreUp-arranged xs apart)
        (pairs-insert (λ a b. key a < key b) (arranged key ys) its_place x (lower-within (key x) (arranged key ys)) (AreUp-arranged ys apart')
        (lower-before (key x) (arranged key ys)) (place-after ys x apart' new))
        (λ z there. elim (of z (arranged-in xs z there)) [
          | inl same ↦ (its_place, get-insert (arranged key ys) its_place x (lower-within (key x) (arranged key ys)) ∙ ap Some same)
          | inr other ↦ let found = in-arranged ys z other in after-insert (arranged key ys) its_place x found.0 z found.1
        ])
        (λ z there. in-arranged xs z (elim (cases-insert (arranged key ys) its_place x (lower-within (key x) (arranged key ys)) there.0 z there.1) [
          | inl low ↦ old z (arranged-in ys z (there.0, low.1))
          | inr (inl now) ↦ subst (IsIn xs) now.1 has
          | inr (inr high) ↦ old z (arranged-in ys z (high.0, high.3))
        ]))

  -- one element that gives way to another of its number
  module _ (xs : List X) (apart : AreApart xs) (place : ℕ) (x y : X) (here : slice_get xs place ≡ Some x) (same : key y ≡ key x) where
    pub AreApart-set : AreApart (set xs place y)
    AreApart-set i j a b at_i at_j is = search (rules, cases-set)

    pub arranged-set : (index : ℕ) → slice_get (arranged key xs) index ≡ Some x → arranged key (set xs place y) ≡ set (arranged key xs) index y
    arranged-set index there = same_up (arranged key (set xs place y)) (set (arranged key xs) index y) (AreUp-arranged (set xs place y) AreApart-set) up_set into from
      where
        up : AreUp (arranged key xs)
        up = AreUp-arranged xs apart

        up_set : AreUp (set (arranged key xs) index y)
        up_set low high a b less at_low at_high = search (rules, cases-set, up)

        into : (z : X) → IsIn (arranged key (set xs place y)) z → IsIn (set (arranged key xs) index y) z
        into z found = let at = arranged-in (set xs place y) z found in
            elim (cases-set xs place y at.0 z at.1) [
              | inl now ↦ (index, get-set (arranged key xs) index x y there ∙ ap Some now.1)
              | inr old ↦
                  let was = in-arranged xs z (at.0, old.1) in (
                    was.0,
                    get-set_other (arranged key xs) index was.0 y (λ e. let is = same_some (sym was.1 ∙ ap (slice_get (arranged key xs)) e ∙ there) in
                        old.0 (apart at.0 place z x old.1 here (ap key is))) ∙ was.1,
                  )
            ]

        from : (z : X) → IsIn (set (arranged key xs) index y) z → IsIn (arranged key (set xs place y)) z
        from z found = in-arranged (set xs place y) z (elim (cases-set (arranged key xs) index y found.0 z found.1) [
          | inl now ↦ (place, get-set xs place x y here ∙ ap Some now.1)
          | inr old ↦
              let was = arranged-in xs z (found.0, old.1) in (
                was.0,
                get-set_other xs place was.0 y (λ e. let is = same_some (sym was.1 ∙ ap (slice_get xs) e ∙ here) in
                    old.0 (one_place (arranged key xs) up found.0 index z x old.1 there (ap key is))) ∙ was.1,
              )
        ])
