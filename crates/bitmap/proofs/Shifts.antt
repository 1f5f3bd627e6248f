-- Words whose bits move by four, and sets whose slots do.
use Rattle.std.proofs.Common.{◌≡◌, ◌==◌, ℕ, zero, suc, ◌+◌, ◌*◌, ◌/◌, ◌%◌, ◌^◌, ◌<◌, ◌≤◌, ◌-◌, max, bit_or, nat_lt, lt-ltb, le-ltb, List, [], ◌∷◌, length, get_or, ap, sym, ◌∙◌, refl, inl, inr, arith, rules}
use Rattle.std.specs.FinSet.{contains}
use Rattle.std.proofs.lemmas.Bool.{cases_lt}
use Rattle.bitmap.specs.Slots.{slots_of_words}
use Rattle.bitmap.specs.Words.{contains-slots_of_words, has_bit-place, has_bit_past}
use Rattle.std.specs.Int.{bit_at}
use Rattle.std.proofs.lemmas.Nat.{or_lt, pow_below}
use Rattle.std.proofs.lemmas.Nat.Bits.{bit_at-zero, bit_at_above, bit_at_cat_high, bit_at_cat_low, bit_at_or}

max-zero : (x : ℕ) → max x 0 ≡ x
max-zero x = omega arith

zero-max : (x : ℕ) → max 0 x ≡ x
zero-max x = omega arith

suc-is : (i : ℕ) → i + 1 ≡ suc i
suc-is i = omega arith

-- a word's bits four higher
module _ (word below : ℕ) (fits : below < 2 ^ 64) where
  abbrev up : ℕ
  up = bit_or (word * 2 ^ 4 % 2 ^ 64) (below / 2 ^ 60)

  raised : word * 2 ^ 4 % 2 ^ 64 ≡ word % 2 ^ 60 * 2 ^ 4 + 0
  raised = omega arith

  whole : (n k : ℕ) → n ≡ n / 2 ^ 60 * 2 ^ 60 + n % 2 ^ 60
  whole n k = omega arith

  pub up-first : (i : ℕ) → i < 4 → bit_at up i ≡ bit_at below (60 + i)
  up-first i small =
      let none : bit_at (word * 2 ^ 4 % 2 ^ 64) i ≡ 0 = ap (λ w. bit_at w i) raised ∙ bit_at_cat_low (word % 2 ^ 60) 4 0 i small ∙ bit_at-zero i in
      let place : 60 + i - 60 ≡ i = omega arith in
      bit_at_or (word * 2 ^ 4 % 2 ^ 64) (below / 2 ^ 60) i
      ∙ rw none (zero-max (bit_at (below / 2 ^ 60) i))
      ∙ sym (ap (λ w. bit_at w (60 + i)) (whole below 0) ∙ bit_at_cat_high (below / 2 ^ 60) 60 (below % 2 ^ 60) (60 + i) (omega arith) (omega arith) ∙ ap (bit_at (below / 2 ^ 60)) place)

  pub up-others : (i : ℕ) → i + 4 < 64 → bit_at up (i + 4) ≡ bit_at word i
  up-others i small =
      let none : bit_at (below / 2 ^ 60) (i + 4) ≡ 0 = bit_at_above (below / 2 ^ 60) 4 (i + 4) (omega arith) (omega arith) in
      let place : i + 4 - 4 ≡ i = omega arith in
      bit_at_or (word * 2 ^ 4 % 2 ^ 64) (below / 2 ^ 60) (i + 4)
      ∙ rw none (max-zero (bit_at (word * 2 ^ 4 % 2 ^ 64) (i + 4)))
      ∙ ap (λ w. bit_at w (i + 4)) raised
      ∙ bit_at_cat_high (word % 2 ^ 60) 4 0 (i + 4) (omega arith) (omega arith)
      ∙ ap (bit_at (word % 2 ^ 60)) place
      ∙ sym (ap (λ w. bit_at w i) (whole word 0) ∙ bit_at_cat_low (word / 2 ^ 60) 60 (word % 2 ^ 60) i (omega arith))

  pub up-fits : up < 2 ^ 64
  up-fits = or_lt 64 (word * 2 ^ 4 % 2 ^ 64) (below / 2 ^ 60) (omega arith) (omega arith)

-- a word's bits four lower
module _ (word above : ℕ) (fits : word < 2 ^ 64) where
  abbrev down : ℕ
  down = bit_or (word / 2 ^ 4) (above * 2 ^ 60 % 2 ^ 64)

  lowest : above * 2 ^ 60 % 2 ^ 64 ≡ above % 2 ^ 4 * 2 ^ 60 + 0
  lowest = omega arith

  nibbles : (n : ℕ) → n ≡ n / 2 ^ 4 * 2 ^ 4 + n % 2 ^ 4
  nibbles n = omega arith

  pub down-last : (i : ℕ) → i < 4 → bit_at down (60 + i) ≡ bit_at above i
  down-last i small =
      let none : bit_at (word / 2 ^ 4) (60 + i) ≡ 0 = bit_at_above (word / 2 ^ 4) 60 (60 + i) (omega arith) (omega arith) in
      let place : 60 + i - 60 ≡ i = omega arith in
      bit_at_or (word / 2 ^ 4) (above * 2 ^ 60 % 2 ^ 64) (60 + i)
      ∙ rw none (zero-max (bit_at (above * 2 ^ 60 % 2 ^ 64) (60 + i)))
      ∙ ap (λ w. bit_at w (60 + i)) lowest
      ∙ bit_at_cat_high (above % 2 ^ 4) 60 0 (60 + i) (omega arith) (omega arith)
      ∙ ap (bit_at (above % 2 ^ 4)) place
      ∙ sym (ap (λ w. bit_at w i) (nibbles above) ∙ bit_at_cat_low (above / 2 ^ 4) 4 (above % 2 ^ 4) i small)

  pub down-others : (i : ℕ) → i + 4 < 64 → bit_at down i ≡ bit_at word (i + 4)
  down-others i small =
      let none : bit_at (above * 2 ^ 60 % 2 ^ 64) i ≡ 0 =
      ap (λ w. bit_at w i) lowest ∙ bit_at_cat_low (above % 2 ^ 4) 60 0 i (omega arith) ∙ bit_at-zero i in
      let place : i + 4 - 4 ≡ i = omega arith in
      bit_at_or (word / 2 ^ 4) (above * 2 ^ 60 % 2 ^ 64) i
      ∙ rw none (max-zero (bit_at (word / 2 ^ 4) i))
      ∙ sym (ap (λ w. bit_at w (i + 4)) (nibbles word) ∙ bit_at_cat_high (word / 2 ^ 4) 4 (word % 2 ^ 4) (i + 4) (omega arith) (omega arith) ∙ ap (bit_at (word / 2 ^ 4)) place)

  pub down-fits : down < 2 ^ 64
  down-fits = or_lt 64 (word / 2 ^ 4) (above * 2 ^ 60 % 2 ^ 64) (omega arith) (omega arith)

-- a set of four words whose bits were moved
module _ (a p : List ℕ) (four_a : length a ≡ 4) (four_p : length p ≡ 4) (w x y z : ℕ) where
  abbrev moved : List ℕ
  moved = w ∷ x ∷ y ∷ z ∷ []

  bit_of : (words : List ℕ) → length words ≡ 4 → (k i q : ℕ) → q ≡ 64 * k + i → i < 64 → contains (slots_of_words words) q ≡ (bit_at (get_or words k 0) i == 1)
  bit_of words four k i q is small = search (rules, contains-slots_of_words, has_bit-place)

  module _ (first : (i : ℕ) → i < 4 → bit_at w i ≡ bit_at (get_or p 3 0) (60 + i)) (others : (i : ℕ) → i + 4 < 64 → bit_at w (i + 4) ≡ bit_at (get_or a 0 0) i)
      (first-2 : (i : ℕ) → i < 4 → bit_at x i ≡ bit_at (get_or a 0 0) (60 + i)) (others-2 : (i : ℕ) → i + 4 < 64 → bit_at x (i + 4) ≡ bit_at (get_or a 1 0) i)
      (first-3 : (i : ℕ) → i < 4 → bit_at y i ≡ bit_at (get_or a 1 0) (60 + i)) (others-3 : (i : ℕ) → i + 4 < 64 → bit_at y (i + 4) ≡ bit_at (get_or a 2 0) i)
      (first-4 : (i : ℕ) → i < 4 → bit_at z i ≡ bit_at (get_or a 2 0) (60 + i)) (others-4 : (i : ℕ) → i + 4 < 64 → bit_at z (i + 4) ≡ bit_at (get_or a 3 0) i) where
    pub slots-up_first : (slot : ℕ) → slot < 4 → contains (slots_of_words moved) slot ≡ contains (slots_of_words p) (252 + slot)
    slots-up_first slot small =
        bit_of moved refl 0 slot slot (omega arith) (omega (arith, small)) ∙ ap (λ b. b == 1) (first slot small)
        ∙ sym (bit_of p four_p 3 (60 + slot) (252 + slot) (omega arith) (omega (arith, small)))

    next_word : (k i : ℕ) → k < 3 → i < 4 → bit_at (get_or moved (suc k) 0) i ≡ bit_at (get_or a k 0) (60 + i)
    next_word zero i low small = first-2 i small
    next_word (suc zero) i low small = first-3 i small
    next_word (suc (suc zero)) i low small = first-4 i small
    next_word (suc (suc (suc k))) i low small = absurd (omega arith)

    same_word : (k i : ℕ) → k < 4 → i + 4 < 64 → bit_at (get_or moved k 0) (i + 4) ≡ bit_at (get_or a k 0) i
    same_word zero i low small = others i small
    same_word (suc zero) i low small = others-2 i small
    same_word (suc (suc zero)) i low small = others-3 i small
    same_word (suc (suc (suc zero))) i low small = others-4 i small
    same_word (suc (suc (suc (suc k)))) i low small = absurd (omega arith)

    pub slots-up_others : (slot : ℕ) → slot + 4 < 256 → contains (slots_of_words moved) (slot + 4) ≡ contains (slots_of_words a) slot
    slots-up_others slot small = elim (cases_lt (slot % 64) 60) [
      | inl inner ↦
          bit_of moved refl (slot / 64) (slot % 64 + 4) (slot + 4) (omega (arith, inner)) (omega (arith, inner))
          ∙ ap (λ b. b == 1) (same_word (slot / 64) (slot % 64) (omega (arith, small)) (omega (arith, inner)))
          ∙ sym (bit_of a four_a (slot / 64) (slot % 64) slot (omega arith) (omega arith))
      | inr last ↦
          bit_of moved refl (suc (slot / 64)) (slot % 64 - 60) (slot + 4) (omega (arith, last)) (omega arith)
          ∙ ap (λ b. b == 1) (next_word (slot / 64) (slot % 64 - 60) (omega (arith, last, small)) (omega (arith, last)))
          ∙ sym (bit_of a four_a (slot / 64) (60 + (slot % 64 - 60)) slot (omega (arith, last)) (omega (arith, last)))
    ]

  module _ (last : (i : ℕ) → i < 4 → bit_at w (60 + i) ≡ bit_at (get_or a 1 0) i) (others : (i : ℕ) → i + 4 < 64 → bit_at w i ≡ bit_at (get_or a 0 0) (i + 4))
      (last-2 : (i : ℕ) → i < 4 → bit_at x (60 + i) ≡ bit_at (get_or a 2 0) i) (others-2 : (i : ℕ) → i + 4 < 64 → bit_at x i ≡ bit_at (get_or a 1 0) (i + 4))
      (last-3 : (i : ℕ) → i < 4 → bit_at y (60 + i) ≡ bit_at (get_or a 3 0) i) (others-3 : (i : ℕ) → i + 4 < 64 → bit_at y i ≡ bit_at (get_or a 2 0) (i + 4))
      (last-4 : (i : ℕ) → i < 4 → bit_at z (60 + i) ≡ bit_at (get_or p 0 0) i) (others-4 : (i : ℕ) → i + 4 < 64 → bit_at z i ≡ bit_at (get_or a 3 0) (i + 4)) where
    pub slots-down_last : (slot : ℕ) → slot < 4 → contains (slots_of_words moved) (252 + slot) ≡ contains (slots_of_words p) slot
    slots-down_last slot small =
        bit_of moved refl 3 (60 + slot) (252 + slot) (omega arith) (omega (arith, small)) ∙ ap (λ b. b == 1) (last-4 slot small)
        ∙ sym (bit_of p four_p 0 slot slot (omega arith) (omega (arith, small)))

    word_before : (k i : ℕ) → k < 3 → i < 4 → bit_at (get_or moved k 0) (60 + i) ≡ bit_at (get_or a (suc k) 0) i
    word_before zero i low small = last i small
    word_before (suc zero) i low small = last-2 i small
    word_before (suc (suc zero)) i low small = last-3 i small
    word_before (suc (suc (suc k))) i low small = absurd (omega arith)

    word_down : (k i : ℕ) → k < 4 → i + 4 < 64 → bit_at (get_or moved k 0) i ≡ bit_at (get_or a k 0) (i + 4)
    word_down zero i low small = others i small
    word_down (suc zero) i low small = others-2 i small
    word_down (suc (suc zero)) i low small = others-3 i small
    word_down (suc (suc (suc zero))) i low small = others-4 i small
    word_down (suc (suc (suc (suc k)))) i low small = absurd (omega arith)

    pub slots-down_others : (slot : ℕ) → slot + 4 < 256 → contains (slots_of_words moved) slot ≡ contains (slots_of_words a) (slot + 4)
    slots-down_others slot small = elim (cases_lt (slot % 64) 60) [
      | inl inner ↦
          bit_of moved refl (slot / 64) (slot % 64) slot (omega arith) (omega arith)
          ∙ ap (λ b. b == 1) (word_down (slot / 64) (slot % 64) (omega (arith, small)) (omega (arith, inner)))
          ∙ sym (bit_of a four_a (slot / 64) (slot % 64 + 4) (slot + 4) (omega (arith, inner)) (omega (arith, inner)))
      | inr last_bit ↦
          bit_of moved refl (slot / 64) (60 + (slot % 64 - 60)) slot (omega (arith, last_bit)) (omega (arith, last_bit))
          ∙ ap (λ b. b == 1) (word_before (slot / 64) (slot % 64 - 60) (omega (arith, last_bit, small)) (omega (arith, last_bit)))
          ∙ sym (bit_of a four_a (suc (slot / 64)) (slot % 64 - 60) (slot + 4) (omega (arith, last_bit)) (omega arith))
    ]

-- a word of the bits below a limit
pub record HasBelow (word limit : ℕ) : Type 0 where
  pub inside : (i : ℕ) → i < 64 → i < limit → bit_at word i ≡ 1
  pub outside : (i : ℕ) → limit ≤ i → i < 64 → bit_at word i ≡ 0

is_below : (word limit i : ℕ) → HasBelow word limit → i < 64 → (bit_at word i == 1) ≡ nat_lt i limit
is_below word limit i below small = elim (cases_lt i limit) [
  | inl low ↦ rw (below.inside i small low, lt-ltb i limit low) refl
  | inr high ↦ rw (below.outside i high small, le-ltb i limit high) refl
]

-- one bit at a place, less one
pub ones-below : (limit : ℕ) → limit < 64 → 1 * 2 ^ limit % 2 ^ 64 - 1 ≡ 2 ^ limit - 1
ones-below limit small = let fits : 2 ^ limit < 2 ^ 64 = pow_below limit 64 small in omega (arith, fits)

-- the words of the slots below a limit
module _ (limit : ℕ) (w x y z : ℕ) where
  module _ (first : HasBelow w limit) (second : HasBelow x (limit - 64)) (third : HasBelow y (limit - 128)) (fourth : HasBelow z (limit - 192)) where
    below_word : (k i : ℕ) → k < 4 → i < 64 → (bit_at (get_or (w ∷ x ∷ y ∷ z ∷ []) k 0) i == 1) ≡ nat_lt i (limit - 64 * k)
    below_word zero i low small = is_below w limit i first small ∙ ap (nat_lt i) (let e : limit ≡ limit - 64 * 0 = omega arith in e)
    below_word (suc zero) i low small = is_below x (limit - 64) i second small
    below_word (suc (suc zero)) i low small = is_below y (limit - 128) i third small
    below_word (suc (suc (suc zero))) i low small = is_below z (limit - 192) i fourth small
    below_word (suc (suc (suc (suc k)))) i low small = absurd (omega arith)

    same_place : (slot : ℕ) → nat_lt (slot % 64) (limit - 64 * (slot / 64)) ≡ nat_lt slot limit
    same_place slot = elim (cases_lt slot limit) [
      | inl low ↦ lt-ltb (slot % 64) (limit - 64 * (slot / 64)) (omega (arith, low)) ∙ sym (lt-ltb slot limit low)
      | inr high ↦ le-ltb (slot % 64) (limit - 64 * (slot / 64)) (omega (arith, high)) ∙ sym (le-ltb slot limit high)
    ]

    pub slots-below : limit ≤ 256 → (slot : ℕ) → contains (slots_of_words (w ∷ x ∷ y ∷ z ∷ [])) slot ≡ nat_lt slot limit
    slots-below few slot = elim (cases_lt slot 256) [
      | inl low ↦
          contains-slots_of_words (w ∷ x ∷ y ∷ z ∷ []) (omega arith) slot
          ∙ below_word (slot / 64) (slot % 64) (omega (arith, low)) (omega arith) ∙ same_place slot
      | inr high ↦
          contains-slots_of_words (w ∷ x ∷ y ∷ z ∷ []) (omega arith) slot ∙ has_bit_past (w ∷ x ∷ y ∷ z ∷ []) (omega arith) slot high
          ∙ sym (le-ltb slot limit (omega (arith, few, high)))
    ]
