-- Sets that share no slot have no more slots together than there are.
use Rattle.std.proofs.Common.{◌≡◌, ℕ, zero, suc, ◌+◌, ◌^◌, ◌<◌, ◌≤◌, ◌&&◌, ◌==◌, Bool, true, false, cond, List, [], ◌∷◌, min, length, get_or, bit_and, count_by, count_ones, ap, sym, ◌∙◌, refl, arith, eqb-true, zero-add, inl, inr}
use Rattle.std.specs.Int.{bit_at}
use Rattle.std.specs.List.{range_with_len}
use Rattle.std.specs.FinSet.{len}
use Rattle.std.proofs.Math.Pow.{pow_pos}
use Rattle.std.proofs.lemmas.Bool.{cases_Bool, cases_eq}
use Rattle.std.proofs.lemmas.List.FromFn.{length-range_with_len}
use Rattle.std.proofs.lemmas.List.Sums.{sum_by-cons}
use Rattle.std.proofs.lemmas.Nat.Bits.{bit_at-lt, bit_at_and, bit_at-zero}
use Rattle.std.proofs.lemmas.Simd.{ones-mask_l}
use Rattle.bitmap.specs.Bits.{word_where}
use Rattle.bitmap.specs.Slots.{AreWords, slots_of_words}
use Rattle.bitmap.specs.Words.{word_where-is}
use Rattle.bitmap.proofs.Counts.{len-slots_of_words}
use Rattle.lane_kernels.specs.Planes.{column, is_apart, word_of}
use Rattle.bitmap.specs.declared.bits.TheConstants.{SLOTS}
use Rattle.bitmap.proofs.Disjoint.{either_zero}

at_most_one : (b c : Bool) → (b && c) ≡ false → cond b 1 0 + cond c 1 0 ≤ 1
at_most_one true true both = absurd (let e : true ≡ false = both in cc)
at_most_one true false both = omega arith
at_most_one false true both = omega arith
at_most_one false false both = omega arith

count_by-apart : (f g : ℕ → Bool) → ((x : ℕ) → (f x && g x) ≡ false) → (l : List ℕ) → count_by f l + count_by g l ≤ length l
count_by-apart f g apart [] = omega arith
count_by-apart f g apart (x ∷ xs) =
    omega (arith, sum_by-cons (λ y. cond (f y) 1 0) x xs, sum_by-cons (λ y. cond (g y) 1 0) x xs, at_most_one (f x) (g x) (apart x), count_by-apart f g apart xs)

bit_of : ℕ → ℕ → Bool
bit_of word i = bit_at word i == 1

ones-word : (f : ℕ → Bool) → count_ones (word_where f 0 64) ≡ count_by f (range_with_len 0 64)
unfolding word_where
ones-word f = ones-mask_l f (range_with_len 0 64)

ones-bits : (word : ℕ) → word < 2 ^ 64 → count_ones word ≡ count_by (bit_of word) (range_with_len 0 64)
unfolding bit_of
ones-bits word fits = ap count_ones (sym (word_where-is (bit_of word) 0 64 word fits (λ i low. ap (bit_of word) (zero-add i)))) ∙ ones-word (bit_of word)

no_bit : (a b : ℕ) → bit_and a b ≡ 0 → (i : ℕ) → (bit_of a i && bit_of b i) ≡ false
unfolding bit_of
no_bit a b none i =
    let both : min (bit_at a i) (bit_at b i) ≡ 0 = sym (bit_at_and a b i) ∙ ap (λ x. bit_at x i) none ∙ bit_at-zero i in
    elim (cases_eq (bit_at a i) 1) [
      | inl one ↦ let other : bit_at b i ≡ 0 = omega arith in rw (one, other) refl
      | inr else_ ↦ let low = bit_at-lt a i in let nothing : bit_at a i ≡ 0 = omega arith in rw nothing refl
    ]

-- two words that share no bit have at most 64 together
ones-apart : (a b : ℕ) → a < 2 ^ 64 → b < 2 ^ 64 → bit_and a b ≡ 0 → count_ones a + count_ones b ≤ 64
ones-apart a b fits_a fits_b none =
    omega (arith, ones-bits a fits_a, ones-bits b fits_b, count_by-apart (bit_of a) (bit_of b) (no_bit a b none) (range_with_len 0 64), length-range_with_len 0 64)

module _ (a p q r s : List ℕ) (are : AreWords a) (fit_p : (k : ℕ) → get_or p k 0 < 2 ^ 64) (fit_q : (k : ℕ) → get_or q k 0 < 2 ^ 64) (fit_r : (k : ℕ)
    → get_or r k 0 < 2 ^ 64) (fit_s : (k : ℕ) → get_or s k 0 < 2 ^ 64) (k : ℕ) where
  words : AreWords (column p q r s k)
  words = record { four = refl; fit = each }
    where
      each : (j : ℕ) → get_or (column p q r s k) j 0 < 2 ^ 64
      each zero = fit_p k
      each (suc zero) = fit_q k
      each (suc (suc zero)) = fit_r k
      each (suc (suc (suc zero))) = fit_s k
      each (suc (suc (suc (suc j)))) = omega arith

  -- a set that shares no slot with that of a column has at most 256 slots with it
  few_apart : is_apart a p q r s k ≡ true → len (slots_of_words a) + len (slots_of_words (column p q r s k)) ≤ SLOTS
  few_apart disjoint =
      let three = either_zero _ _ (eqb-true _ 0 disjoint) in
      let two = either_zero _ _ three.0 in
      let one = either_zero _ _ two.0 in
      omega (
        arith,
        len-slots_of_words a are,
        len-slots_of_words (column p q r s k) words,
        ones-apart _ _ (are.fit 0) (fit_p k) one.0,
        ones-apart _ _ (are.fit 1) (fit_q k) one.1,
        ones-apart _ _ (are.fit 2) (fit_r k) two.1,
        ones-apart _ _ (are.fit 3) (fit_s k) three.1,
      )

  -- a set that has more than 256 slots with that of a column shares one
  pub is_apart-crowded : SLOTS < len (slots_of_words a) + len (slots_of_words (column p q r s k)) → is_apart a p q r s k ≡ false
  is_apart-crowded many = elim (cases_Bool (is_apart a p q r s k)) [
    | inl disjoint ↦ absurd (let few = few_apart disjoint in omega arith)
    | inr shared ↦ shared
  ]

-- where no column passes the test, no bit is set
pub word_of-none : (test : ℕ → Bool) (at n : ℕ) → ((k : ℕ) → at ≤ k → k < at + n → test k ≡ false) → 0 ≡ word_of test at n
unfolding word_where
word_of-none test at n none = sym (word_where-is test at n 0 (pow_pos n) (λ i low. none (at + i) (omega arith) (omega arith) ∙ sym (ap (λ b. b == 1) (bit_at-zero i))))
