-- The lowest slot of one word that is outside of two sets.
use Rattle.std.proofs.Common.{◌≡◌, ℕ, ◌+◌, ◌*◌, ◌/◌, ◌%◌, ◌^◌, ◌<◌, ◌-◌, ◌==◌, true, List, get_or, bit_or, ap, sym, ◌∙◌, refl, inl, inr, arith, eq-eqb, eqb-true, w64, rules}
use Rattle.std.specs.Int.{bit_at, trailing_ones}
use Rattle.std.specs.Simd.Lanes.{zip2}
use Rattle.std.specs.FinSet.{contains, insert, union}
use Rattle.std.proofs.lemmas.Bool.{cases_eq}
use Rattle.std.proofs.lemmas.Nat.{or_lt}
use Rattle.std.proofs.lemmas.Nat.Bits.{bit_at-trailing_ones, bit_at_ones, bit_at_set_other, bit_at_set_same, same_from_bits_below}
use Rattle.bitmap.specs.Slots.{AreWords, HasWord, IsLowestOutsideIn, SlotSet, slots_of_words}
use Rattle.bitmap.specs.Words.{contains-slots_of_words}
use Rattle.bitmap.proofs.Summaries.{contains-insert_other, contains-insert_same}
use Rattle.bitmap.proofs.WordByWord.{slots_of_words-union, AreWords-lanes, get_or-lanes, length-lanes}

module _ (a b : List ℕ) (are_a : AreWords a) (are_b : AreWords b) (k : ℕ) (low : k < 4) where
  abbrev both : SlotSet
  both = union (slots_of_words a) (slots_of_words b)

  abbrev lanes : List ℕ
  lanes = zip2 bit_or a b

  abbrev word : ℕ
  word = bit_or (get_or a k 0) (get_or b k 0)

  are : AreWords lanes
  are = AreWords-lanes a b are_a are_b bit_or (or_lt 64)

  slots_are : slots_of_words lanes ≡ both
  slots_are = search (rules, slots_of_words-union, length-lanes, get_or-lanes)

  -- the slots of the word are the bits of both joined
  contains-both : (slot : ℕ) → slot / 64 ≡ k → contains both slot ≡ (bit_at word (slot % 64) == 1)
  contains-both slot here =
      ap (λ s. contains s slot) (sym slots_are) ∙ contains-slots_of_words lanes (omega (arith, are.four)) slot
      ∙ rw (here, get_or-lanes a b are_a are_b bit_or k low) refl

  pub HasWord-full : word ≡ 2 ^ 64 - 1 → HasWord both k
  HasWord-full ones slot here = contains-both slot here ∙ eq-eqb _ 1 (rw ones (bit_at_ones 64 (slot % 64) (omega arith)))

  word-lt : word < 2 ^ 64
  word-lt = or_lt 64 _ _ (are_a.fit k) (are_b.fit k)

  module _ (some : word ≡ 2 ^ 64 - 1 → ⊥) where
    abbrev first : ℕ
    first = trailing_ones w64 word

    found : (first < 64) × (bit_at word first ≡ 0) × ((i : ℕ) → i < first → bit_at word i ≡ 1)
    found = bit_at-trailing_ones w64 word (omega (arith, word-lt))

    pub first-lt : first < 64
    first-lt = found.0

    abbrev slot : ℕ
    slot = 64 * k + first

    slot_in : slot / 64 ≡ k
    slot_in = omega (arith, first-lt)

    slot_bit : slot % 64 ≡ first
    slot_bit = omega (arith, first-lt)

    pub IsLowestOutsideIn-first : IsLowestOutsideIn both k slot
    IsLowestOutsideIn-first = record {
      in_word = slot_in;
      outside = contains-both slot slot_in ∙ rw (slot_bit, found.1) refl;
      lower = λ other here less. contains-both other here ∙ eq-eqb _ 1 (found.2 (other % 64) (omega (arith, here, less)));
    }

    abbrev changed : ℕ
    changed = bit_or word (1 * 2 ^ first % 2 ^ 64)

    -- with this slot the word is full if all its bits are on
    pub HasWord-last : changed ≡ 2 ^ 64 - 1 → HasWord (insert both slot) k
    HasWord-last ones q here = elim (cases_eq q slot) [
      | inl same ↦ ap (contains (insert both slot)) same ∙ contains-insert_same both slot
      | inr other ↦
          let bit : bit_at word (q % 64) ≡ 1 = sym (bit_at_set_other w64 word first first-lt (q % 64) (λ e. other (omega (arith, e, here)))) ∙ rw ones (bit_at_ones 64 (q % 64) (omega arith)) in
          contains-insert_other both slot q other ∙ contains-both q here ∙ eq-eqb _ 1 bit
    ]

    -- and only then
    pub last-HasWord : HasWord (insert both slot) k → changed ≡ 2 ^ 64 - 1
    last-HasWord all = same_from_bits_below 64 changed (2 ^ 64 - 1) (or_lt 64 _ _ word-lt (omega arith)) (omega arith) (λ i small. elim (cases_eq i first) [
      | inl same ↦ ap (bit_at changed) same ∙ bit_at_set_same w64 word first first-lt ∙ sym (bit_at_ones 64 i small)
      | inr other ↦
          let q : ℕ = 64 * k + i in
          let here : q / 64 ≡ k = omega (arith, small) in
          let bit : q % 64 ≡ i = omega (arith, small) in
          let inside : (bit_at word (q % 64) == 1) ≡ true = sym (contains-both q here) ∙ sym (contains-insert_other both slot q (λ e. other (omega (arith, e)))) ∙ all q here in
          bit_at_set_other w64 word first first-lt i other ∙ ap (bit_at word) (sym bit) ∙ eqb-true _ _ inside ∙ sym (bit_at_ones 64 i small)
    ])
