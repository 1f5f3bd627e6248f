-- Numbers of a first part and of further ones, which move by one quad from a quad on.
use Rattle.std.proofs.Common.{◌≡◌, ℕ, ◌+◌, ◌-◌, ◌*◌, ◌%◌, ◌<◌, ◌≤◌, true, false, List, ◌∷◌, length, ◌∙◌, ap, sym, inl, inr, arith}
use Rattle.std.specs.FinSet.{contains}
use Rattle.std.proofs.lemmas.Bool.{cases_lt, false_from_ne_true}
use Rattle.bitmap.specs.Parts.{numbers_in}
use Rattle.bitmap.specs.Slots.{SlotSet}
use Rattle.bitmap.specs.declared.bits.TheConstants.{SLOTS}
use Rattle.bitmap.proofs.InParts.{contains-past}
use Rattle.bitmap.proofs.Joined.{contains-high, contains-low}

module _ (low now_low : SlotSet) (high now_high : List SlotSet) (first : ℕ) (long : length now_high ≡ length high) where
  abbrev old : SlotSet
  old = numbers_in (low ∷ high)

  abbrev new : SlotSet
  new = numbers_in (now_low ∷ now_high)

  -- past all parts there is none
  past : (q : ℕ) → SLOTS + SLOTS * length high ≤ q → contains new q ≡ false
  past q large = contains-high now_low now_high q (omega (arith, large)) ∙ contains-past now_high (q - SLOTS) (omega (arith, large, long))

  -- the last places are free
  last_free : ((q : ℕ) → contains old q ≡ true → q + 4 < SLOTS + SLOTS * length high) → (q : ℕ) → SLOTS + SLOTS * length high ≤ q + 4 → contains old q ≡ false
  last_free fits q last = false_from_ne_true (contains old q) (λ member. absurd (omega (arith, last, fits q member)))

  -- a quad from 256 on
  module _ (large : SLOTS ≤ first) (low_is : now_low ≡ low) where
    low_stays : (q : ℕ) → q < SLOTS → contains new q ≡ contains old q
    low_stays q small = contains-low now_low now_high q small ∙ ap (λ s. contains s q) low_is ∙ sym (contains-low low high q small)

    module _ (high_below : (q : ℕ) → q < first - SLOTS → contains (numbers_in now_high) q ≡ contains (numbers_in high) q) where
      pub high-below : (q : ℕ) → q < first → contains new q ≡ contains old q
      high-below q less = elim (cases_lt q SLOTS) [
        | inl small ↦ low_stays q small
        | inr past_low ↦ contains-high now_low now_high q past_low ∙ high_below (q - SLOTS) (omega (arith, less, past_low)) ∙ sym (contains-high low high q past_low)
      ]

    module _ (high_this : (slot : ℕ) → slot < 4 → first - SLOTS < SLOTS * length high → contains (numbers_in now_high) (first - SLOTS + slot) ≡ false) where
      pub high-this : (slot : ℕ) → slot < 4 → contains new (first + slot) ≡ false
      high-this slot small = contains-high now_low now_high (first + slot) (omega (arith, large)) ∙ elim (cases_lt (first - SLOTS) (SLOTS * length high)) [
        | inl within ↦ ap (contains (numbers_in now_high)) (let e : first + slot - SLOTS ≡ first - SLOTS + slot = omega (arith, large) in e) ∙ high_this slot small within
        | inr beyond ↦ contains-past now_high (first + slot - SLOTS) (omega (arith, beyond, large, long))
      ]

    module _ (high_above : (q : ℕ) → first - SLOTS ≤ q → q + 4 < SLOTS * length high → contains (numbers_in now_high) (q + 4) ≡ contains (numbers_in high) q)
        (fits : (q : ℕ) → contains old q ≡ true → q + 4 < SLOTS + SLOTS * length high) where
      pub high-up : (q : ℕ) → first ≤ q → contains new (q + 4) ≡ contains old q
      high-up q from = elim (cases_lt (q + 4) (SLOTS + SLOTS * length high)) [
        | inl within ↦
            let place : q + 4 - SLOTS ≡ q - SLOTS + 4 = omega (arith, from, large) in
            contains-high now_low now_high (q + 4) (omega (arith, from, large)) ∙ ap (contains (numbers_in now_high)) place
            ∙ high_above (q - SLOTS) (omega (arith, from, large)) (omega (arith, from, large, within)) ∙ sym (contains-high low high q (omega (arith, from, large)))
        | inr beyond ↦ past (q + 4) beyond ∙ sym (last_free fits q beyond)
      ]

    module _ (high_above : (q : ℕ) → first - SLOTS ≤ q → contains (numbers_in now_high) q ≡ contains (numbers_in high) (q + 4)) where
      pub high-down : (q : ℕ) → first ≤ q → contains new q ≡ contains old (q + 4)
      high-down q from =
          let place : q - SLOTS + 4 ≡ q + 4 - SLOTS = omega (arith, from, large) in
          contains-high now_low now_high q (omega (arith, from, large)) ∙ high_above (q - SLOTS) (omega (arith, from, large))
          ∙ ap (contains (numbers_in high)) place ∙ sym (contains-high low high (q + 4) (omega (arith, from, large)))

  -- a quad below 256
  module _ (small_first : first < SLOTS) (aligned : first % 4 ≡ 0) where
    module _ (low_below : (slot : ℕ) → slot < first → contains now_low slot ≡ contains low slot) where
      pub low-below : (q : ℕ) → q < first → contains new q ≡ contains old q
      low-below q less = contains-low now_low now_high q (omega (arith, less, small_first)) ∙ low_below q less ∙ sym (contains-low low high q (omega (arith, less, small_first)))

    module _ (low_this : (slot : ℕ) → slot < 4 → first + slot < 256 → contains now_low (first + slot) ≡ false) where
      pub low-this : (slot : ℕ) → slot < 4 → contains new (first + slot) ≡ false
      low-this slot small = contains-low now_low now_high (first + slot) (omega (arith, small, small_first, aligned)) ∙ low_this slot small (omega (arith, small, small_first, aligned))

    module _ (low_above : (slot : ℕ) → first ≤ slot → slot + 4 < 256 → contains now_low (slot + 4) ≡ contains low slot)
        (high_this : (slot : ℕ) → slot < 4 → 0 < SLOTS * length high → contains (numbers_in now_high) (0 + slot) ≡ contains low (252 + slot))
        (high_above : (q : ℕ) → 0 ≤ q → q + 4 < SLOTS * length high → contains (numbers_in now_high) (q + 4) ≡ contains (numbers_in high) q)
        (fits : (q : ℕ) → contains old q ≡ true → q + 4 < SLOTS + SLOTS * length high) where
      pub low-up : (q : ℕ) → first ≤ q → contains new (q + 4) ≡ contains old q
      low-up q from = elim (cases_lt (q + 4) (SLOTS + SLOTS * length high)) [
        | inr beyond ↦ past (q + 4) beyond ∙ sym (last_free fits q beyond)
        | inl within ↦ elim (cases_lt (q + 4) SLOTS) [
          | inl inner ↦ contains-low now_low now_high (q + 4) inner ∙ low_above q from inner ∙ sym (contains-low low high q (omega (arith, inner)))
          | inr outer ↦ contains-high now_low now_high (q + 4) outer ∙ elim (cases_lt q SLOTS) [
            | inl seam ↦
                let place : q + 4 - SLOTS ≡ 0 + (q - 252) = omega (arith, outer) in
                let back : 252 + (q - 252) ≡ q = omega (arith, outer) in
                ap (contains (numbers_in now_high)) place ∙ high_this (q - 252) (omega (arith, seam, outer)) (omega (arith, within, outer)) ∙ ap (contains low) back
                ∙ sym (contains-low low high q seam)
            | inr later ↦
                let place : q + 4 - SLOTS ≡ q - SLOTS + 4 = omega (arith, later) in
                ap (contains (numbers_in now_high)) place ∙ high_above (q - SLOTS) (omega arith) (omega (arith, later, within)) ∙ sym (contains-high low high q later)
          ]
        ]
      ]

    module _ (low_above : (slot : ℕ) → first ≤ slot → slot + 4 < 256 → contains now_low slot ≡ contains low (slot + 4))
        (low_last : (slot : ℕ) → slot < 4 → first ≤ 252 + slot → contains now_low (252 + slot) ≡ contains (numbers_in high) slot)
        (high_above : (q : ℕ) → 0 ≤ q → contains (numbers_in now_high) q ≡ contains (numbers_in high) (q + 4)) where
      pub low-down : (q : ℕ) → first ≤ q → contains new q ≡ contains old (q + 4)
      low-down q from = elim (cases_lt (q + 4) SLOTS) [
        | inl inner ↦ contains-low now_low now_high q (omega (arith, inner)) ∙ low_above q from inner ∙ sym (contains-low low high (q + 4) inner)
        | inr outer ↦ elim (cases_lt q SLOTS) [
          | inl seam ↦
              let place : q ≡ 252 + (q - 252) = omega (arith, outer) in
              let back : q - 252 ≡ q + 4 - SLOTS = omega (arith, outer) in
              contains-low now_low now_high q seam ∙ ap (contains now_low) place ∙ low_last (q - 252) (omega (arith, seam, outer)) (omega (arith, from, outer))
              ∙ ap (contains (numbers_in high)) back ∙ sym (contains-high low high (q + 4) outer)
          | inr later ↦
              let place : q - SLOTS + 4 ≡ q + 4 - SLOTS = omega (arith, later) in
              contains-high now_low now_high q later ∙ high_above (q - SLOTS) (omega arith) ∙ ap (contains (numbers_in high)) place ∙ sym (contains-high low high (q + 4) outer)
        ]
      ]
