-- Parts whose slots move by four, from a limit on.
use Rattle.std.proofs.Common.{◌≡◌, ℕ, ◌+◌, ◌-◌, ◌*◌, ◌/◌, ◌%◌, ◌<◌, ◌≤◌, min, refl, Option, Some, None, is_some, Bool, true, false, not, ◌&&◌, ◌||◌, nat_lt, List, length, get_or, set, ap, sym, subst, ◌∙◌, inl, inr, arith, lt-ltb, le-ltb, rules}
use Rattle.std.specs.Cmp.{nat_cmp_total}
use Rattle.std.specs.Prelude.{MatchOption}
use Rattle.std.specs.Ordering.{nat_cmp}
use Rattle.std.specs.FinSet.{contains, empty, insert, remove, union, difference, contains-empty, contains-union, contains-difference}
use Rattle.std.proofs.Math.Bool.{and-false, and-true, or-false}
use Rattle.std.proofs.lemmas.Bool.{cases_eq, cases_lt, true≢false}
use Rattle.bitmap.specs.Parts.{HasNoneIn, IsLowestIn, IsSummary, IsSummaryTo, numbers_in}
use Rattle.bitmap.specs.Slots.{SlotSet}
use Rattle.bitmap.specs.declared.bits.TheConstants.{SLOTS}
use Rattle.bitmap.proofs.InParts.{contains-past, contains-set_other, contains-set_same, slot_at}
use Rattle.bitmap.proofs.Summaries.{contains-insert_other, contains-insert_same, contains-remove_other, contains-remove_same, was as was_in}

apart : (b : Bool) → (b && not b) ≡ false
apart b = search rules

-- a set, its slots from the limit on, and those below
module _ (part low high left : SlotSet) (limit : ℕ) (low_is : (q : ℕ) → contains low q ≡ nat_lt q limit) (high_is : high ≡ difference part low) (left_is : left ≡ difference part high) where
  high-below : (q : ℕ) → q < limit → contains high q ≡ false
  high-below q small = search (rules, contains-difference, lt-ltb, and-false)

  high-above : (q : ℕ) → limit ≤ q → contains high q ≡ contains part q
  high-above q large = search (rules, contains-difference, le-ltb, and-true)

  left-below : (q : ℕ) → q < limit → contains left q ≡ contains part q
  left-below q small = search (rules, contains-difference, high-below, and-true)

  left-above : (q : ℕ) → limit ≤ q → contains left q ≡ false
  left-above q large = search (rules, contains-difference, high-above, apart)

  module _ (moved result : SlotSet) (result_is : result ≡ union left moved) where
    either : (q : ℕ) → contains result q ≡ (contains left q || contains moved q)
    either q = ap (λ s. contains s q) result_is ∙ contains-union nat_cmp_total left moved q

    -- the upper ones four higher
    module _ (before : SlotSet) (alone : 0 < limit → before ≡ empty) (first : (slot : ℕ) → slot < 4 → contains moved slot ≡ contains before (252 + slot))
        (others : (slot : ℕ) → slot + 4 < 256 → contains moved (slot + 4) ≡ contains high slot) where
      none : 0 < limit → (q : ℕ) → contains before q ≡ false
      none some q = ap (λ s. contains s q) (alone some) ∙ contains-empty nat_cmp q

      -- below the place of the first that moved none is
      moved-below : (q : ℕ) → q < 256 → 0 < limit → q < limit + 4 → contains moved q ≡ false
      moved-below q fits some small = elim (cases_lt q 4) [
        | inl low ↦ first q low ∙ none some (252 + q)
        | inr later ↦ ap (contains moved) (let e : q ≡ q - 4 + 4 = omega (arith, later) in e) ∙ others (q - 4) (omega (arith, fits, later)) ∙ high-below (q - 4) (omega (arith, later, small))
      ]

      pub spread-below : limit < 256 → (q : ℕ) → q < limit → contains result q ≡ contains part q
      spread-below within q small = either q ∙ rw (left-below q small, moved-below q (omega (arith, small, within)) (omega (arith, small)) (omega (arith, small))) (or-false (contains part q))

      pub spread-this : (slot : ℕ) → slot < 4 → limit + slot < 256 → contains result (limit + slot) ≡ contains before (252 + slot)
      spread-this slot small fits = elim (cases_lt 0 limit) [
        | inl some ↦ either (limit + slot) ∙ rw (left-above (limit + slot) (omega arith), moved-below (limit + slot) fits some (omega (arith, small))) (sym (none some (252 + slot)))
        | inr start ↦ let e : limit + slot ≡ slot = omega (arith, start) in
            ap (contains result) e ∙ either slot ∙ rw (left-above slot (omega (arith, start)), first slot small) refl
      ]

      pub spread-above : (q : ℕ) → limit ≤ q → q + 4 < 256 → contains result (q + 4) ≡ contains part q
      spread-above q large fits = either (q + 4) ∙ rw (left-above (q + 4) (omega (arith, large)), others q fits) (high-above q large)

    -- the upper ones four lower, without those that come below the limit
    module _ (shifted after : SlotSet) (moved_is : moved ≡ difference shifted low) (last : (slot : ℕ) → slot < 4 → contains shifted (252 + slot) ≡ contains after slot)
        (others : (slot : ℕ) → slot + 4 < 256 → contains shifted slot ≡ contains part (slot + 4)) where
      gone-below : (q : ℕ) → q < limit → contains moved q ≡ false
      gone-below q small = ap (λ s. contains s q) moved_is ∙ contains-difference nat_cmp_total shifted low q ∙ rw (low_is q, lt-ltb q limit small) (and-false (contains shifted q))

      kept-above : (q : ℕ) → limit ≤ q → contains moved q ≡ contains shifted q
      kept-above q large = ap (λ s. contains s q) moved_is ∙ contains-difference nat_cmp_total shifted low q ∙ rw (low_is q, le-ltb q limit large) (and-true (contains shifted q))

      pub gather-below : (q : ℕ) → q < limit → contains result q ≡ contains part q
      gather-below q small = either q ∙ rw (left-below q small, gone-below q small) (or-false (contains part q))

      pub gather-above : (q : ℕ) → limit ≤ q → q + 4 < 256 → contains result q ≡ contains part (q + 4)
      gather-above q large fits = either q ∙ rw (left-above q large, kept-above q large) (others q fits)

      pub gather-last : (slot : ℕ) → slot < 4 → limit ≤ 252 + slot → contains result (252 + slot) ≡ contains after slot
      gather-last slot small large = either (252 + slot) ∙ rw (left-above (252 + slot) large, kept-above (252 + slot) large) (last slot small)

-- parts from one on below another, which have moved up
pub record IsRaised (old : List SlotSet) (from : ℕ) (came : SlotSet) (new : List SlotSet) (at : ℕ) : Type 0 where
  pub below : (q : ℕ) → q < SLOTS * from → contains (numbers_in new) q ≡ contains (numbers_in old) q
  pub first : (slot : ℕ) → slot < 4 → from < at → contains (numbers_in new) (SLOTS * from + slot) ≡ contains came (252 + slot)
  pub above : (q : ℕ) → SLOTS * from ≤ q → q + 4 < SLOTS * at → contains (numbers_in new) (q + 4) ≡ contains (numbers_in old) q
  pub rest : (q : ℕ) → SLOTS * at ≤ q → contains (numbers_in new) q ≡ contains (numbers_in old) q

-- the last slots of the part before
pub record IsBefore (old : List SlotSet) (from : ℕ) (came before : SlotSet) (at : ℕ) : Type 0 where
  pub order : from ≤ at
  pub start : at ≡ from → before ≡ came
  pub later : from < at → (slot : ℕ) → slot < 4 → contains before (252 + slot) ≡ contains (numbers_in old) (SLOTS * at - 4 + slot)

pub IsRaised-start : (old : List SlotSet) (from : ℕ) (came : SlotSet) → IsRaised old from came old from
IsRaised-start old from came = record {
  below = λ q small. refl;
  first = λ slot small less. absurd (omega (arith, less));
  above = λ q large small. absurd (omega (arith, large, small));
  rest = λ q large. refl;
}

pub IsBefore-start : (old : List SlotSet) (from : ℕ) (came : SlotSet) → IsBefore old from came came from
IsBefore-start old from came = record {
  order = omega arith;
  start = λ same. refl;
  later = λ less. absurd (omega (arith, less));
}

-- a part that is read
this_at : (parts : List SlotSet) (at : ℕ) (within : at < length parts) (this : SlotSet) → this ≡ get_or parts at this → (q : ℕ) → q / SLOTS ≡ at
    → contains this (q % SLOTS) ≡ contains (numbers_in parts) q
this_at parts at within this is q here = ap (λ s. contains s (q % SLOTS)) is ∙ slot_at parts at within this q here

module _ (old : List SlotSet) (from : ℕ) (came : SlotSet) (parts : List SlotSet) (at : ℕ) (within : at < length parts)
    (done : IsRaised old from came parts at) (before : SlotSet) (before_is : IsBefore old from came before at) (this new : SlotSet) (this_is : this ≡ get_or parts at this)
    (new_first : (slot : ℕ) → slot < 4 → contains new slot ≡ contains before (252 + slot))
    (new_others : (slot : ℕ) → slot + 4 < 256 → contains new (slot + 4) ≡ contains this slot) where
  was : (q : ℕ) → q / SLOTS ≡ at → contains this (q % SLOTS) ≡ contains (numbers_in old) q
  was q here = this_at parts at within this this_is q here ∙ done.rest q (omega (arith, here))

  set_earlier : (q : ℕ) → q < SLOTS * at → contains (numbers_in (set parts at new)) q ≡ contains (numbers_in parts) q
  set_earlier q earlier = contains-set_other parts at within new q (λ e. absurd (omega (arith, e, earlier)))

  set_here : (slot : ℕ) → slot < SLOTS → contains (numbers_in (set parts at new)) (SLOTS * at + slot) ≡ contains new slot
  set_here slot small =
      let bit : (SLOTS * at + slot) % SLOTS ≡ slot = omega (arith, small) in
      contains-set_same parts at within new (SLOTS * at + slot) (omega (arith, small)) ∙ ap (contains new) bit

  raised_first : (slot : ℕ) → slot < 4 → from < at + 1 → contains (numbers_in (set parts at new)) (SLOTS * from + slot) ≡ contains came (252 + slot)
  raised_first slot small less = elim (cases_lt from at) [
    | inl earlier ↦ set_earlier (SLOTS * from + slot) (omega (arith, earlier, small)) ∙ done.first slot small earlier
    | inr start ↦
        let same : at ≡ from = omega (arith, start, less) in
        ap (λ k. contains (numbers_in (set parts at new)) (SLOTS * k + slot)) (sym same) ∙ set_here slot (omega (arith, small)) ∙ new_first slot small
        ∙ ap (λ s. contains s (252 + slot)) (before_is.start same)
  ]

  raised_above : (q : ℕ) → SLOTS * from ≤ q → q + 4 < SLOTS * (at + 1) → contains (numbers_in (set parts at new)) (q + 4) ≡ contains (numbers_in old) q
  raised_above q large low = elim (cases_lt (q + 4) (SLOTS * at)) [
    | inl earlier ↦ set_earlier (q + 4) earlier ∙ done.above q large earlier
    | inr here ↦
        let place : q + 4 ≡ SLOTS * at + (q + 4 - SLOTS * at) = omega (arith, here) in
        ap (contains (numbers_in (set parts at new))) place ∙ set_here (q + 4 - SLOTS * at) (omega (arith, low, here)) ∙ elim (cases_lt q (SLOTS * at)) [
          | inl seam ↦
              let back : SLOTS * at - 4 + (q + 4 - SLOTS * at) ≡ q = omega (arith, seam, here) in
              new_first (q + 4 - SLOTS * at) (omega (arith, seam, here)) ∙ before_is.later (omega (arith, seam, large)) (q + 4 - SLOTS * at) (omega (arith, seam, here))
              ∙ ap (contains (numbers_in old)) back
          | inr inner ↦
              let slot : q + 4 - SLOTS * at ≡ q % SLOTS + 4 = omega (arith, inner, low) in
              ap (contains new) slot ∙ new_others (q % SLOTS) (omega (arith, inner, low)) ∙ was q (omega (arith, inner, low))
        ]
  ]

  pub IsRaised-next : IsRaised old from came (set parts at new) (at + 1)
  IsRaised-next = record {
    below = λ q small. set_earlier q (omega (arith, small, before_is.order)) ∙ done.below q small;
    first = raised_first;
    above = raised_above;
    rest = λ q large. contains-set_other parts at within new q (λ e. absurd (omega (arith, e, large))) ∙ done.rest q (omega (arith, large));
  }

  pub IsBefore-next : IsBefore old from came this (at + 1)
  IsBefore-next = record {
    order = omega (arith, before_is.order);
    start = λ none. absurd (omega (arith, none, before_is.order));
    later = λ some slot small.
        let place : SLOTS * at + 252 + slot ≡ SLOTS * (at + 1) - 4 + slot = omega arith in
        let bit : (SLOTS * at + 252 + slot) % SLOTS ≡ 252 + slot = omega (arith, small) in
        sym (ap (contains this) bit) ∙ was (SLOTS * at + 252 + slot) (omega (arith, small)) ∙ ap (contains (numbers_in old)) place;
  }

-- the first part that moves, and those behind it
module _ (old : List SlotSet) (limit : ℕ) (within : limit / SLOTS < length old) (aligned : limit % 4 ≡ 0) (before this one : SlotSet) (new : List SlotSet)
    (this_is : this ≡ get_or old (limit / SLOTS) this)
    (one_below : (slot : ℕ) → slot < limit % SLOTS → contains one slot ≡ contains this slot)
    (one_this : (slot : ℕ) → slot < 4 → limit % SLOTS + slot < 256 → contains one (limit % SLOTS + slot) ≡ contains before (252 + slot))
    (one_above : (slot : ℕ) → limit % SLOTS ≤ slot → slot + 4 < 256 → contains one (slot + 4) ≡ contains this slot)
    (new_below : (q : ℕ) → q < SLOTS * (limit / SLOTS + 1) → contains (numbers_in new) q ≡ contains (numbers_in (set old (limit / SLOTS) one)) q)
    (used end : ℕ) (past : (q : ℕ) → SLOTS * used ≤ q → contains (numbers_in old) q ≡ false) (order : limit / SLOTS + 1 ≤ used) (end_is : end ≡ min (length old) (used + 1))
    (new_first : (slot : ℕ) → slot < 4 → limit / SLOTS + 1 < end → contains (numbers_in new) (SLOTS * (limit / SLOTS + 1) + slot) ≡ contains this (252 + slot))
    (new_above : (q : ℕ) → SLOTS * (limit / SLOTS + 1) ≤ q → q + 4 < SLOTS * end → contains (numbers_in new) (q + 4) ≡ contains (numbers_in (set old (limit / SLOTS) one)) q)
    (new_rest : (q : ℕ) → SLOTS * end ≤ q → contains (numbers_in new) q ≡ contains (numbers_in (set old (limit / SLOTS) one)) q) (long : length new ≡ length old) where
  of_first : (q : ℕ) → q / SLOTS ≡ limit / SLOTS → contains (numbers_in new) q ≡ contains one (q % SLOTS)
  of_first q here = new_below q (omega (arith, here)) ∙ contains-set_same old (limit / SLOTS) within one q here

  of_this : (q : ℕ) → q / SLOTS ≡ limit / SLOTS → contains this (q % SLOTS) ≡ contains (numbers_in old) q
  of_this = this_at old (limit / SLOTS) within this this_is

  pub all_spread-below : (q : ℕ) → q < limit → contains (numbers_in new) q ≡ contains (numbers_in old) q
  all_spread-below q small = elim (cases_eq (q / SLOTS) (limit / SLOTS)) [
    | inl here ↦ of_first q here ∙ one_below (q % SLOTS) (omega (arith, here, small)) ∙ of_this q here
    | inr apart ↦ new_below q (omega (arith, small)) ∙ contains-set_other old (limit / SLOTS) within one q apart
  ]

  pub all_spread-this : (slot : ℕ) → slot < 4 → contains (numbers_in new) (limit + slot) ≡ contains before (252 + slot)
  all_spread-this slot small =
      let place : (limit + slot) % SLOTS ≡ limit % SLOTS + slot = omega (arith, small, aligned) in
      of_first (limit + slot) (omega (arith, small, aligned)) ∙ ap (contains one) place ∙ one_this slot small (omega (arith, small, aligned))

  all_spread-inside : (q : ℕ) → limit ≤ q → q + 4 < SLOTS * end → contains (numbers_in new) (q + 4) ≡ contains (numbers_in old) q
  all_spread-inside q large fits = elim (cases_lt (q + 4) (SLOTS * (limit / SLOTS + 1))) [
    | inl inner ↦
        let place : (q + 4) % SLOTS ≡ q % SLOTS + 4 = omega (arith, large, inner) in
        of_first (q + 4) (omega (arith, large, inner)) ∙ ap (contains one) place ∙ one_above (q % SLOTS) (omega (arith, large, inner)) (omega (arith, large, inner))
        ∙ of_this q (omega (arith, large, inner))
    | inr past ↦ elim (cases_lt q (SLOTS * (limit / SLOTS + 1))) [
      | inl seam ↦
          let place : q + 4 ≡ SLOTS * (limit / SLOTS + 1) + (q + 4 - SLOTS * (limit / SLOTS + 1)) = omega (arith, past) in
          let bit : 252 + (q + 4 - SLOTS * (limit / SLOTS + 1)) ≡ q % SLOTS = omega (arith, past, seam) in
          ap (contains (numbers_in new)) place ∙ new_first (q + 4 - SLOTS * (limit / SLOTS + 1)) (omega (arith, seam, past)) (omega (arith, past, fits))
          ∙ ap (contains this) bit ∙ of_this q (omega (arith, seam, past))
      | inr later ↦ new_above q later fits ∙ contains-set_other old (limit / SLOTS) within one q (λ e. absurd (omega (arith, e, later)))
    ]
  ]

  -- from the end on there is none, and was none
  pub old_past : (q : ℕ) → SLOTS * end ≤ q → contains (numbers_in old) q ≡ false
  old_past q large = elim (cases_lt q (SLOTS * length old)) [
    | inl low ↦ past q (omega (arith, large, low, end_is))
    | inr beyond ↦ contains-past old q (omega (arith, beyond))
  ]

  pub new_past : (q : ℕ) → SLOTS * end ≤ q → contains (numbers_in new) q ≡ false
  new_past q large = elim (cases_lt q (SLOTS * length old)) [
    | inl low ↦ new_rest q large ∙ contains-set_other old (limit / SLOTS) within one q (λ e. absurd (omega (arith, e, large, end_is, order, within))) ∙ old_past q large
    | inr beyond ↦ contains-past new q (omega (arith, beyond, long))
  ]

  pub all_spread-above : (q : ℕ) → limit ≤ q → q + 4 < SLOTS * length old → contains (numbers_in new) (q + 4) ≡ contains (numbers_in old) q
  all_spread-above q large fits = elim (cases_lt (q + 4) (SLOTS * end)) [
    | inl low ↦ all_spread-inside q large low
    | inr beyond ↦ new_past (q + 4) beyond ∙ sym (past q (omega (arith, beyond, fits, end_is)))
  ]

-- parts from one on below another, which have moved down
pub record IsLowered (old : List SlotSet) (from : ℕ) (new : List SlotSet) (at : ℕ) : Type 0 where
  pub order : from ≤ at
  pub below : (q : ℕ) → q < SLOTS * from → contains (numbers_in new) q ≡ contains (numbers_in old) q
  pub above : (q : ℕ) → SLOTS * from ≤ q → q < SLOTS * at → contains (numbers_in new) q ≡ contains (numbers_in old) (q + 4)
  pub rest : (q : ℕ) → SLOTS * at ≤ q → contains (numbers_in new) q ≡ contains (numbers_in old) q

pub IsLowered-start : (old : List SlotSet) (from : ℕ) → IsLowered old from old from
IsLowered-start old from = record {
  order = omega arith;
  below = λ q small. refl;
  above = λ q large small. absurd (omega (arith, large, small));
  rest = λ q large. refl;
}

module _ (old : List SlotSet) (from : ℕ) (parts : List SlotSet) (at : ℕ) (within : at < length parts) (done : IsLowered old from parts at)
    (after this new : SlotSet) (this_is : this ≡ get_or parts at this)
    (after_is : (slot : ℕ) → slot < 256 → contains after slot ≡ contains (numbers_in parts) (SLOTS * (at + 1) + slot))
    (new_last : (slot : ℕ) → slot < 4 → contains new (252 + slot) ≡ contains after slot)
    (new_others : (slot : ℕ) → slot + 4 < 256 → contains new slot ≡ contains this (slot + 4)) where
  was_down : (q : ℕ) → q / SLOTS ≡ at → contains this (q % SLOTS) ≡ contains (numbers_in old) q
  was_down q here = this_at parts at within this this_is q here ∙ done.rest q (omega (arith, here))

  lowered_here : (q : ℕ) → q / SLOTS ≡ at → contains new (q % SLOTS) ≡ contains (numbers_in old) (q + 4)
  lowered_here q here = elim (cases_lt (q % SLOTS) 252) [
    | inl inner ↦
        let slot : (q + 4) % SLOTS ≡ q % SLOTS + 4 = omega (arith, inner) in
        new_others (q % SLOTS) (omega (arith, inner)) ∙ ap (contains this) (sym slot) ∙ was_down (q + 4) (omega (arith, here, inner))
    | inr seam ↦
        let slot : q % SLOTS ≡ 252 + (q % SLOTS - 252) = omega (arith, seam) in
        let place : SLOTS * (at + 1) + (q % SLOTS - 252) ≡ q + 4 = omega (arith, here, seam) in
        ap (contains new) slot ∙ new_last (q % SLOTS - 252) (omega arith) ∙ after_is (q % SLOTS - 252) (omega arith)
        ∙ ap (contains (numbers_in parts)) place ∙ done.rest (q + 4) (omega (arith, here))
  ]

  pub IsLowered-next : IsLowered old from (set parts at new) (at + 1)
  IsLowered-next = record {
    order = omega (arith, done.order);
    below = λ q small. contains-set_other parts at within new q (λ e. absurd (omega (arith, e, small, done.order))) ∙ done.below q small;
    above = λ q large low. elim (cases_lt q (SLOTS * at)) [
      | inl earlier ↦ contains-set_other parts at within new q (λ e. absurd (omega (arith, e, earlier))) ∙ done.above q large earlier
      | inr here ↦ contains-set_same parts at within new q (omega (arith, here, low)) ∙ lowered_here q (omega (arith, here, low))
    ];
    rest = λ q large. contains-set_other parts at within new q (λ e. absurd (omega (arith, e, large))) ∙ done.rest q (omega (arith, large));
  }

-- where all parts from one on have moved, no other number is in
pub lowered_above : (old new : List SlotSet) (from at end : ℕ) → ((q : ℕ) → SLOTS * end ≤ q → contains (numbers_in old) q ≡ false) → end ≤ at → IsLowered old from new at → (q : ℕ) → SLOTS * from ≤ q
    → contains (numbers_in new) q ≡ contains (numbers_in old) (q + 4)
lowered_above old new from at end none order done q large = elim (cases_lt q (SLOTS * at)) [
  | inl inner ↦ done.above q large inner
  | inr past ↦ done.rest q past ∙ none q (omega (arith, past, order)) ∙ sym (none (q + 4) (omega (arith, past, order)))
]

-- one part replaced below a limit from which on there is none
pub none-set : (old : List SlotSet) (at limit : ℕ) (within : at < length old) (one : SlotSet) → at < limit
    → ((q : ℕ) → SLOTS * limit ≤ q → contains (numbers_in old) q ≡ false) → (q : ℕ) → SLOTS * limit ≤ q → contains (numbers_in (set old at one)) q ≡ false
none-set old at limit within one low none q large = contains-set_other old at within one q (λ e. absurd (omega (arith, e, large, low))) ∙ none q large

-- what a look for the least says if it finds none
pub none-found : {A : Type 0} (B : ℕ → Type 0) (found : Option ℕ) → is_some found ≡ false → MatchOption found A B → A
none-found B None no_number it = it
none-found B (Some n) no_number it = absurd (true≢false no_number)

-- a part without a number, before those that have none
pub none-before : (parts : List SlotSet) (end : ℕ) (this : SlotSet) → 0 < end → end ≤ length parts → ((q : ℕ) → SLOTS * end ≤ q → contains (numbers_in parts) q ≡ false)
    → this ≡ get_or parts (end - 1) this → this ≡ empty → (q : ℕ) → SLOTS * (end - 1) ≤ q → contains (numbers_in parts) q ≡ false
none-before parts end this some within none is blank q large = elim (cases_lt q (SLOTS * end)) [
  | inl low ↦
      sym (this_at parts (end - 1) (omega (arith, some, within)) this is q (omega (arith, low, large)))
      ∙ ap (λ s. contains s (q % SLOTS)) blank ∙ contains-empty nat_cmp (q % SLOTS)
  | inr high ↦ none q high
]

-- the first part that moves, and those behind it
module _ (old : List SlotSet) (limit : ℕ) (within : limit / SLOTS < length old) (after this one : SlotSet) (new : List SlotSet)
    (this_is : this ≡ get_or old (limit / SLOTS) this)
    (after_is : (slot : ℕ) → slot < 256 → contains after slot ≡ contains (numbers_in old) (SLOTS * (limit / SLOTS + 1) + slot))
    (one_below : (slot : ℕ) → slot < limit % SLOTS → contains one slot ≡ contains this slot)
    (one_above : (slot : ℕ) → limit % SLOTS ≤ slot → slot + 4 < 256 → contains one slot ≡ contains this (slot + 4))
    (one_last : (slot : ℕ) → slot < 4 → limit % SLOTS ≤ 252 + slot → contains one (252 + slot) ≡ contains after slot)
    (new_below : (q : ℕ) → q < SLOTS * (limit / SLOTS + 1) → contains (numbers_in new) q ≡ contains (numbers_in (set old (limit / SLOTS) one)) q)
    (new_above : (q : ℕ) → SLOTS * (limit / SLOTS + 1) ≤ q → contains (numbers_in new) q ≡ contains (numbers_in (set old (limit / SLOTS) one)) (q + 4)) where
  of_one : (q : ℕ) → q / SLOTS ≡ limit / SLOTS → contains (numbers_in new) q ≡ contains one (q % SLOTS)
  of_one q here = new_below q (omega (arith, here)) ∙ contains-set_same old (limit / SLOTS) within one q here

  of_old : (q : ℕ) → q / SLOTS ≡ limit / SLOTS → contains this (q % SLOTS) ≡ contains (numbers_in old) q
  of_old = this_at old (limit / SLOTS) within this this_is

  pub all_gathered-below : (q : ℕ) → q < limit → contains (numbers_in new) q ≡ contains (numbers_in old) q
  all_gathered-below q small = elim (cases_eq (q / SLOTS) (limit / SLOTS)) [
    | inl here ↦ of_one q here ∙ one_below (q % SLOTS) (omega (arith, here, small)) ∙ of_old q here
    | inr apart ↦ new_below q (omega (arith, small)) ∙ contains-set_other old (limit / SLOTS) within one q apart
  ]

  pub all_gathered-above : (q : ℕ) → limit ≤ q → contains (numbers_in new) q ≡ contains (numbers_in old) (q + 4)
  all_gathered-above q large = elim (cases_eq (q / SLOTS) (limit / SLOTS)) [
    | inl here ↦ of_one q here ∙ elim (cases_lt (q % SLOTS) 252) [
      | inl inner ↦
          let slot : (q + 4) % SLOTS ≡ q % SLOTS + 4 = omega (arith, inner) in
          one_above (q % SLOTS) (omega (arith, here, large)) (omega (arith, inner)) ∙ ap (contains this) (sym slot) ∙ of_old (q + 4) (omega (arith, here, inner))
      | inr seam ↦
          let slot : q % SLOTS ≡ 252 + (q % SLOTS - 252) = omega (arith, seam) in
          let place : SLOTS * (limit / SLOTS + 1) + (q % SLOTS - 252) ≡ q + 4 = omega (arith, here, seam) in
          ap (contains one) slot ∙ one_last (q % SLOTS - 252) (omega arith) (omega (arith, here, large, seam)) ∙ after_is (q % SLOTS - 252) (omega arith)
          ∙ ap (contains (numbers_in old)) place
    ]
    | inr apart ↦ new_above q (omega (arith, large, apart)) ∙ contains-set_other old (limit / SLOTS) within one (q + 4) (λ e. absurd (omega (arith, e, large, apart)))
  ]

-- the parts below a limit that have a number
pub record AreNoted (numbers filled : SlotSet) (at : ℕ) : Type 0 where
  pub has : (n : ℕ) → contains numbers n ≡ true → n / SLOTS < at → contains filled (n / SLOTS) ≡ true
  pub some : (part : ℕ) → contains filled part ≡ true → (n : ℕ) × (n / SLOTS ≡ part) × (contains numbers n ≡ true)

pub AreNoted-none : (numbers filled : SlotSet) → ((q : ℕ) → contains filled q ≡ false) → AreNoted numbers filled 0
AreNoted-none numbers filled none = search (rules, true≢false)

module _ (numbers filled : SlotSet) (at : ℕ) (noted : AreNoted numbers filled at) where
  pub AreNoted-found : (n : ℕ) → IsLowestIn numbers at n → AreNoted numbers (insert filled at) (at + 1)
  AreNoted-found n lowest = search (rules, cases_eq, contains-insert_same, contains-insert_other)

  pub AreNoted-missed : HasNoneIn numbers at → AreNoted numbers filled (at + 1)
  AreNoted-missed none = search (rules, cases_eq, true≢false)

  pub AreNoted-some : (found : Option ℕ) → MatchOption found (HasNoneIn numbers at) (IsLowestIn numbers at) → is_some found ≡ true
      → (after : SlotSet) → after ≡ insert filled at → AreNoted numbers after (at + 1)
  AreNoted-some None none some after is = absurd (true≢false (sym some))
  AreNoted-some (Some n) lowest some after is = subst (λ s. AreNoted numbers s (at + 1)) (sym is) (AreNoted-found n lowest)

  pub AreNoted-other : (found : Option ℕ) → MatchOption found (HasNoneIn numbers at) (IsLowestIn numbers at) → is_some found ≡ false
      → (after : SlotSet) → after ≡ filled → AreNoted numbers after (at + 1)
  AreNoted-other None none no_number after is = subst (λ s. AreNoted numbers s (at + 1)) (sym is) (AreNoted-missed none)
  AreNoted-other (Some n) lowest no_number after is = absurd (true≢false no_number)

pub IsSummary-noted : (parts : List SlotSet) (filled : SlotSet) → AreNoted (numbers_in parts) filled (length parts) → IsSummary (numbers_in parts) filled
IsSummary-noted parts filled noted = search (rules, cases_lt, true≢false, contains-past)

-- what is noted of the parts, of which one is noted anew
module _ (numbers filled : SlotSet) (at count : ℕ) (within : at < count) (noted : IsSummaryTo numbers filled at count) where
  IsSummaryTo-found : (n : ℕ) → IsLowestIn numbers at n → IsSummaryTo numbers (insert filled at) (at + 1) count
  IsSummaryTo-found n lowest = record {
    has = λ m member low. elim (cases_eq (m / SLOTS) at) [
      | inl same ↦ ap (contains (insert filled at)) same ∙ contains-insert_same filled at
      | inr apart ↦ contains-insert_other filled at (m / SLOTS) apart ∙ noted.has m member (omega (arith, low, apart))
    ];
    some = λ part member low. elim (cases_eq part at) [
      | inl same ↦ (n, lowest.part_is ∙ sym same, lowest.inside)
      | inr apart ↦ noted.some part (sym (contains-insert_other filled at part apart) ∙ member) (omega (arith, low, apart))
    ];
    within = λ part member. elim (cases_eq part at) [
      | inl same ↦ omega (arith, same, within)
      | inr apart ↦ noted.within part (sym (contains-insert_other filled at part apart) ∙ member)
    ];
  }

  IsSummaryTo-missed : HasNoneIn numbers at → IsSummaryTo numbers (remove filled at) (at + 1) count
  IsSummaryTo-missed none = record {
    has = λ m member low. elim (cases_eq (m / SLOTS) at) [
      | inl same ↦ absurd (true≢false (sym member ∙ none m same))
      | inr apart ↦ contains-remove_other filled at (m / SLOTS) apart ∙ noted.has m member (omega (arith, low, apart))
    ];
    some = λ part member low. elim (cases_eq part at) [
      | inl same ↦ absurd (true≢false (sym member ∙ ap (contains (remove filled at)) same ∙ contains-remove_same filled at))
      | inr apart ↦ noted.some part (was_in filled at part member) (omega (arith, low, apart))
    ];
    within = λ part member. noted.within part (was_in filled at part member);
  }

  pub IsSummaryTo-some : (found : Option ℕ) → MatchOption found (HasNoneIn numbers at) (IsLowestIn numbers at) → is_some found ≡ true
      → (after : SlotSet) → after ≡ insert filled at → IsSummaryTo numbers after (at + 1) count
  IsSummaryTo-some None none some after is = absurd (true≢false (sym some))
  IsSummaryTo-some (Some n) lowest some after is = subst (λ s. IsSummaryTo numbers s (at + 1) count) (sym is) (IsSummaryTo-found n lowest)

  pub IsSummaryTo-none : (found : Option ℕ) → MatchOption found (HasNoneIn numbers at) (IsLowestIn numbers at) → is_some found ≡ false
      → (after : SlotSet) → after ≡ remove filled at → IsSummaryTo numbers after (at + 1) count
  IsSummaryTo-none None none no_number after is = subst (λ s. IsSummaryTo numbers s (at + 1) count) (sym is) (IsSummaryTo-missed none)
  IsSummaryTo-none (Some n) lowest no_number after is = absurd (true≢false no_number)

-- in the end all is noted
pub IsSummary-all : (parts : List SlotSet) (filled : SlotSet) (at count : ℕ) → count ≤ at → IsSummaryTo (numbers_in parts) filled at count
    → ((q : ℕ) → SLOTS * count ≤ q → contains (numbers_in parts) q ≡ false) → IsSummary (numbers_in parts) filled
IsSummary-all parts filled at count end noted none = record {
  has = λ n member. noted.has n member (omega (arith, end, inside n member));
  some = λ part member. noted.some part member (omega (arith, end, noted.within part member));
}
  where
    inside : (n : ℕ) → contains (numbers_in parts) n ≡ true → n / SLOTS < count
    inside n member = elim (cases_lt (n / SLOTS) count) [
      | inl low ↦ low
      | inr past ↦ absurd (true≢false (sym member ∙ none n (omega (arith, past))))
    ]

-- a summary is one still of the parts before the first that changes
pub IsSummaryTo-changed : (old new : List SlotSet) (filled : SlotSet) (limit end : ℕ) → ((q : ℕ) → SLOTS * end ≤ q → contains (numbers_in old) q ≡ false) → IsSummary (numbers_in old) filled
    → ((q : ℕ) → q < limit → contains (numbers_in new) q ≡ contains (numbers_in old) q) → IsSummaryTo (numbers_in new) filled (limit / SLOTS) end
IsSummaryTo-changed old new filled limit end none summary same = record {
  has = λ n member low. summary.has n (sym (same n (omega (arith, low))) ∙ member);
  some = λ part member low.
      let (n, place, is) = summary.some part member in
      (n, place, same n (omega (arith, low, place)) ∙ is);
  within = λ part member.
      let (n, place, is) = summary.some part member in
      elim (cases_lt part end) [
        | inl low ↦ low
        | inr past ↦ absurd (true≢false (sym is ∙ none n (omega (arith, place, past))))
      ];
}
