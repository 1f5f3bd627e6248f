-- The numbers that parts of 256 have.
use Rattle.std.proofs.Common.{◌≡◌, ℕ, ◌+◌, ◌-◌, ◌*◌, ◌/◌, ◌%◌, ◌<◌, ◌≤◌, [], false, Option, nat_lt, List, length, get_or, set, get_or-set_same, get_or-set_other, ◌∙◌, ap, sym, refl, inl, inr, arith, lt-ltb, le-ltb, rules}
use Rattle.std.specs.Ordering.{nat_cmp}
use Rattle.std.specs.FinSet.{contains, empty, insert, remove, contains-empty}
use Rattle.std.proofs.Math.Bool.{and-true}
use Rattle.std.proofs.lemmas.Bool.{cases_eq, cases_lt, true≢false}
use Rattle.std.proofs.lemmas.List.{get_or_past}
use Rattle.std.proofs.lemmas.Option.{get_or_from_slice_get, slice_get-get_or}
use Rattle.std.specs.Prelude.{None, option_map, IfSome, IsOk, MatchOption, Result, if◌then◌else◌, is_ok, replicate, take, ◌++◌}
use Rattle.bitmap.specs.Parts.{HasNoneIn, IsLowestIn, has_number, numbers_in, parts_in}
use Rattle.bitmap.specs.Slots.{SlotSet, IsLowest}
use Rattle.bitmap.specs.Words.{contains-slots_where, same_slots}
use Rattle.bitmap.specs.declared.bits.TheConstants.{SLOTS}
use Rattle.bitmap.proofs.Summaries.{contains-insert_other, contains-insert_same, contains-remove_other, contains-remove_same, same_but_at}

has_number-past : (parts : List SlotSet) (q : ℕ) → SLOTS * length parts ≤ q → has_number parts q ≡ false
has_number-past parts q past = rw (get_or_past parts (q / SLOTS) empty (omega arith)) (contains-empty nat_cmp (q % SLOTS))

pub contains-numbers_in : (parts : List SlotSet) (q : ℕ) → contains (numbers_in parts) q ≡ has_number parts q
unfolding numbers_in
contains-numbers_in parts q = search (rules, contains-slots_where, cases_lt, lt-ltb, and-true, has_number-past)

-- a number past the last part is in none
pub contains-past : (parts : List SlotSet) (q : ℕ) → length parts ≤ q / SLOTS → contains (numbers_in parts) q ≡ false
contains-past parts q past = contains-numbers_in parts q ∙ has_number-past parts q (omega arith)

-- an element that was read, whatever stands past the end
read_part : (parts : List SlotSet) (at : ℕ) (past : SlotSet) → at < length parts → get_or parts at empty ≡ get_or parts at past
read_part parts at past within = get_or_from_slice_get parts at (get_or parts at past) empty (slice_get-get_or parts at past within)

pub contains-part : (parts : List SlotSet) (q : ℕ) (past : SlotSet) → q / SLOTS < length parts
    → contains (get_or parts (q / SLOTS) past) (q % SLOTS) ≡ contains (numbers_in parts) q
contains-part parts q past within = ap (λ s. contains s (q % SLOTS)) (sym (read_part parts (q / SLOTS) past within)) ∙ sym (contains-numbers_in parts q)

-- two lists of parts have the same numbers where each part does
pub numbers_in-alike : (a b : List SlotSet) → ((at : ℕ) → get_or a at empty ≡ get_or b at empty) → numbers_in a ≡ numbers_in b
numbers_in-alike a b alike = same_slots _ _
    (λ q. contains-numbers_in a q ∙ ap (λ s. contains s (q % SLOTS)) (alike (q / SLOTS)) ∙ sym (contains-numbers_in b q))

-- one part replaced
module _ (parts : List SlotSet) (at : ℕ) (within : at < length parts) (new : SlotSet) where
  pub contains-set_same : (q : ℕ) → q / SLOTS ≡ at → contains (numbers_in (set parts at new)) q ≡ contains new (q % SLOTS)
  contains-set_same q here = contains-numbers_in (set parts at new) q ∙ rw (here, get_or-set_same parts at new empty within) refl

  pub contains-set_other : (q : ℕ) → (q / SLOTS ≡ at → ⊥) → contains (numbers_in (set parts at new)) q ≡ contains (numbers_in parts) q
  contains-set_other q apart = search (rules, contains-numbers_in, get_or-set_other)

module _ (parts : List SlotSet) (index : ℕ) (within : index / SLOTS < length parts) (past : SlotSet) where
  abbrev part : SlotSet
  part = get_or parts (index / SLOTS) past

  part_at : (q : ℕ) → q / SLOTS ≡ index / SLOTS → contains part (q % SLOTS) ≡ contains (numbers_in parts) q
  part_at q here = ap (λ k. contains (get_or parts k past) (q % SLOTS)) (sym here) ∙ contains-part parts q past (omega (arith, here, within))

  same_place : (q : ℕ) → q / SLOTS ≡ index / SLOTS → q % SLOTS ≡ index % SLOTS → q ≡ index
  same_place q a b = omega (arith, a, b)

  -- the part of the number is written, with the number or without it
  changed : (new after : SlotSet) → contains new (index % SLOTS) ≡ contains after index
      → ((slot : ℕ) → (slot ≡ index % SLOTS → ⊥) → contains new slot ≡ contains part slot)
      → ((q : ℕ) → (q ≡ index → ⊥) → contains after q ≡ contains (numbers_in parts) q) → numbers_in (set parts (index / SLOTS) new) ≡ after
  changed new after this others rest = same_but_at _ _ (numbers_in parts) index (contains-set_same parts (index / SLOTS) within new index refl ∙ this) each rest
    where
      each : (q : ℕ) → (q ≡ index → ⊥) → contains (numbers_in (set parts (index / SLOTS) new)) q ≡ contains (numbers_in parts) q
      each q other = elim (cases_eq (q / SLOTS) (index / SLOTS)) [
        | inl here ↦ contains-set_same parts (index / SLOTS) within new q here ∙ others (q % SLOTS) (λ e. other (same_place q here e)) ∙ part_at q here
        | inr apart ↦ contains-set_other parts (index / SLOTS) within new q apart
      ]

  pub numbers_in-insert : numbers_in (set parts (index / SLOTS) (insert part (index % SLOTS))) ≡ insert (numbers_in parts) index
  numbers_in-insert = search (rules, changed, contains-insert_same, contains-insert_other)

  pub numbers_in-remove : numbers_in (set parts (index / SLOTS) (remove part (index % SLOTS))) ≡ remove (numbers_in parts) index
  numbers_in-remove = search (rules, changed, contains-remove_same, contains-remove_other)

-- the least number of a part

module _ (parts : List SlotSet) (at : ℕ) (within : at < length parts) (past : SlotSet) where
  pub slot_at : (q : ℕ) → q / SLOTS ≡ at → contains (get_or parts at past) (q % SLOTS) ≡ contains (numbers_in parts) q
  slot_at q here = ap (λ k. contains (get_or parts k past) (q % SLOTS)) (sym here) ∙ contains-part parts q past (omega (arith, here, within))

  pub IsLowestIn-slot : (slot : ℕ) → slot < SLOTS → IsLowest (get_or parts at past) slot → IsLowestIn (numbers_in parts) at (SLOTS * at + slot)
  IsLowestIn-slot slot small least =
      let place : (SLOTS * at + slot) / SLOTS ≡ at = omega arith in
      let bit : (SLOTS * at + slot) % SLOTS ≡ slot = omega arith in
      record {
        inside = sym (slot_at (SLOTS * at + slot) place) ∙ ap (contains (get_or parts at past)) bit ∙ least.inside;
        part_is = place;
        lower = λ other member here. let above : slot ≤ other % SLOTS = least.lower (other % SLOTS) (slot_at other here ∙ member) in omega (arith, above, here);
      }

  pub HasNoneIn-empty : get_or parts at past ≡ empty → HasNoneIn (numbers_in parts) at
  HasNoneIn-empty none q here = sym (slot_at q here) ∙ ap (λ s. contains s (q % SLOTS)) none ∙ contains-empty nat_cmp (q % SLOTS)

pub HasNoneIn-past : (parts : List SlotSet) (at : ℕ) → length parts ≤ at → HasNoneIn (numbers_in parts) at
HasNoneIn-past parts at past q here = contains-past parts q (omega (arith, here, past))

-- the least number of a part is one of the parts'
pub in_room : (parts : List SlotSet) (part : ℕ) (found : Option ℕ) → MatchOption found (HasNoneIn (numbers_in parts) part) (IsLowestIn (numbers_in parts) part)
    → IfSome found (λ n. n < SLOTS * length parts)
in_room parts part found none = search (rules, cases_lt, true≢false, contains-past)

pub numbers_in-none : (parts : List SlotSet) → parts ≡ [] → numbers_in parts ≡ empty
numbers_in-none parts none = same_slots _ _ (λ q. contains-past parts q (omega (arith, ap length none)) ∙ sym (contains-empty nat_cmp q))

pub in_none : (parts : List SlotSet) → parts ≡ [] → (q : ℕ) → contains (numbers_in parts) q ≡ false
in_none parts none q = contains-past parts q (omega (arith, ap length none))

-- parts that have no memory yet are none
pub parts-none : {B : Type 0} (made : Option B) (parts : B → List SlotSet) → made ≡ None → parts_in (option_map parts made) ≡ []
parts-none made parts none = ap (λ o. parts_in (option_map parts o)) none

-- one part more has the numbers below the count
pub below-part : (parts : List SlotSet) (at count : ℕ) (new : SlotSet) → at < length parts
    → ((slot : ℕ) → slot < SLOTS → contains new slot ≡ nat_lt slot (count - SLOTS * at))
    → ((q : ℕ) → q < SLOTS * at → contains (numbers_in parts) q ≡ nat_lt q count)
    → (q : ℕ) → q < SLOTS * (at + 1) → contains (numbers_in (set parts at new)) q ≡ nat_lt q count
below-part parts at count new within new_is before q less = search (rules, cases_lt, contains-set_other, contains-set_same, nat_lt, lt-ltb, le-ltb)

-- where all parts have the numbers below the count, no other has one
pub below-all : (parts : List SlotSet) (count : ℕ) → count ≤ SLOTS * length parts
    → ((q : ℕ) → q < SLOTS * length parts → contains (numbers_in parts) q ≡ nat_lt q count) → (q : ℕ) → contains (numbers_in parts) q ≡ nat_lt q count
below-all parts count few each q = search (rules, cases_lt, contains-past, le-ltb)

-- parts that come, with no number
pub numbers_in-grown : (parts after : List SlotSet) → length parts ≤ length after
    → ((at : ℕ) → at < length parts → get_or after at empty ≡ get_or parts at empty)
    → ((at : ℕ) → length parts ≤ at → at < length after → get_or after at empty ≡ empty) → numbers_in after ≡ numbers_in parts
numbers_in-grown parts after longer same none = search (rules, numbers_in-alike, cases_lt, get_or_past)

pub numbers_in-resized : {E : Type 0} (done : Result (Unit {0}) E) (parts after : List SlotSet) (n old new : ℕ) (value : SlotSet) → value ≡ empty → old ≡ length parts → new ≡ length after → old < n
    → new ≡ (if is_ok done then n else old) → after ≡ (if is_ok done then take n parts ++ replicate (n - old) value else parts)
    → ((at : ℕ) (past : SlotSet) → at < n → at < old → get_or after at past ≡ get_or parts at past)
    → ((at : ℕ) (past : SlotSet) → IsOk done → old ≤ at → at < n → get_or after at past ≡ value) → numbers_in after ≡ numbers_in parts
numbers_in-resized done parts after n old new value blank old_is new_is more long items same none = search (rules, numbers_in-grown)
