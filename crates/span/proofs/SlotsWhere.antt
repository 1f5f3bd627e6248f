-- The slots below a number that pass a test.
use Rattle.std.proofs.Common.{zero, suc, ◌+◌, if◌then◌else◌, ◌≡◌, ◌<◌, ◌≤◌, ◌⊎◌, ◌&&◌, ℕ, Bool, true, false, nat_lt, ap, sym, ◌∙◌, refl, subst, inl, inr, lt-ltb, le-ltb, arith, rules}
use Rattle.std.specs.Ordering.{nat_cmp}
use Rattle.std.specs.Cmp.{nat_cmp_total}
use Rattle.std.specs.FinSet.{contains, len, len-empty, len-insert}
use Rattle.std.proofs.Math.Bool.{and-false, and-true}
use Rattle.std.proofs.lemmas.Bool.{cases_lt, false_from_ne_true}
use Rattle.bitmap.specs.Slots.{SlotSet, IsBelow, slots_where}
use Rattle.bitmap.proofs.Where.{slots_where-zero, slots_where-insert, slots_where-skip}
use Rattle.bitmap.specs.Words.{same_slots, contains-slots_where}

-- tests that agree below the number give the same slots
pub slots_where-same : (test other : ℕ → Bool) (n : ℕ) → ((q : ℕ) → q < n → test q ≡ other q) → slots_where test n ≡ slots_where other n
slots_where-same test other n same = same_slots _ _ (λ q. contains-slots_where test n q ∙ below q (cases_lt q n) ∙ sym (contains-slots_where other n q))
  where
    below : (q : ℕ) → (q < n) ⊎ (n ≤ q) → (test q && nat_lt q n) ≡ (other q && nat_lt q n)
    below q (inl low) = ap (λ b. b && nat_lt q n) (same q low)
    below q (inr high) = rw (le-ltb q n high) (and-false (test q) ∙ sym (and-false (other q)))

-- where no more pass the test
pub slots_where-more : (test : ℕ → Bool) (n m : ℕ) → n ≤ m → ((q : ℕ) → n ≤ q → test q ≡ false) → slots_where test n ≡ slots_where test m
slots_where-more test n m fewer none = same_slots _ _ (λ q. contains-slots_where test n q ∙ by_place q (cases_lt q n) ∙ sym (contains-slots_where test m q))
  where
    by_place : (q : ℕ) → (q < n) ⊎ (n ≤ q) → (test q && nat_lt q n) ≡ (test q && nat_lt q m)
    by_place q (inl low) = rw (lt-ltb q n low, lt-ltb q m (omega (arith, low, fewer))) refl
    by_place q (inr high) = rw (none q high) refl

-- a set of slots below the number
pub slots_where-below : (s : SlotSet) (n : ℕ) → IsBelow s n → slots_where (contains s) n ≡ s
slots_where-below s n below = same_slots _ _ (λ q. contains-slots_where (contains s) n q ∙ by_place q (cases_lt q n))
  where
    by_place : (q : ℕ) → (q < n) ⊎ (n ≤ q) → (contains s q && nat_lt q n) ≡ contains s q
    by_place q (inl low) = rw (lt-ltb q n low) (and-true (contains s q))
    by_place q (inr high) = rw (le-ltb q n high) (and-false (contains s q) ∙ sym (false_from_ne_true (contains s q) (λ inside. absurd (omega (arith, high, below q inside)))))

-- no more pass than there are
pub len-slots_where-le : (test : ℕ → Bool) (n : ℕ) → len (slots_where test n) ≤ n
len-slots_where-le test zero = rw (slots_where-zero test, len-empty nat_cmp) (omega arith)
len-slots_where-le test (suc n) =
    let more : n + 1 ≡ suc n = omega arith in
    subst (λ m. len (slots_where test m) ≤ m) more (by_test (test n) refl (len-slots_where-le test n))
  where
    one_more : (b : Bool) (k : ℕ) → (if b then k else k + 1) ≤ k + 1
    one_more b k = search rules

    by_test : (b : Bool) → test n ≡ b → len (slots_where test n) ≤ n → len (slots_where test (n + 1)) ≤ n + 1
    by_test true passes few = rw (slots_where-insert test n passes, len-insert nat_cmp_total (slots_where test n) n)
        (omega (arith, few, one_more (contains (slots_where test n) n) (len (slots_where test n))))
    by_test false fails few = rw (slots_where-skip test n fails) (omega (arith, few))
