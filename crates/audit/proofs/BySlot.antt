-- A log's changes by slot, the last one of a slot before a place, and what the slot then holds.
use Rattle.std.proofs.Common.{zero, suc, ◌≡◌, cond, ℕ, ◌+◌, ◌-◌, ◌<◌, ◌≤◌, true, false, List, length, take, get_or, Some, None, slice_get, sym, subst, ap, refl, ◌∙◌, inl, inr, arith, eq-eqb, ltb, ltb-true, ltb-false, rules}
use Rattle.std.specs.FinMap as map
use Rattle.std.specs.List.{AllWithin}
use Rattle.std.specs.List.Sorted.{IsNonDecreasingBy, IsPermutation}
use Rattle.std.proofs.lemmas.Bool.{cases_lt, ne_eqb}
use Rattle.std.proofs.lemmas.Option.{same_Some, slice_get_cases, slice_get_within, slice_get_read, get_or_from_slice_get}
use Rattle.std.proofs.lemmas.List.Sorted.{Contains-permutation, IsPermutation-sym}
use Rattle.span.specs.declared.change.Change.{Change}
use Rattle.span.specs.declared.key.Key.{Key}
use Rattle.span.specs.Log.{replay, value_if}
use Rattle.audit.specs.declared.slot.SlotChange.{SlotChange}
use Rattle.audit.specs.Receipts.{value_after}
use Rattle.audit.specs.Changes.{slot_of, left_by}
use Rattle.audit.specs.Slots.{slot_rank, change_rank, place_of, HasChanges, IsBySlot, IsQuiet, IsLast, IsSplitAt}
use Rattle.audit.proofs.Replies.{get_none, get_taken}

-- the element is the change at a place
abbrev pub IsFirst : List SlotChange → ℕ → Change → Type 0
IsFirst found k change = (x : SlotChange) × (slice_get found k ≡ Some x) × (x.slot ≡ slot_of change) × (place_of x ≡ k)

-- the first n changes, in order
pub record AreFirst (changes : List Change) (n : ℕ) (found : List SlotChange) : Type 0 where
  pub len : length found ≡ n
  pub each : (k : ℕ) (change : Change) → k < n → slice_get changes k ≡ Some change → IsFirst found k change

pub HasChanges-all : (changes : List Change) (n : ℕ) (found : List SlotChange) → AreFirst changes n found → length changes ≡ n → n < 18446744073709551616 → HasChanges changes found
HasChanges-all changes n found are long small = record {
  each = λ place change at.
      let there = are.each place change (let within = slice_get_within changes place change at in omega arith) at in
      (place, there.0, there.1, there.3, there.2);
  only = λ k x at. elim (slice_get_cases changes k).1 [
    | inl there ↦
        let of = are.each k there.0 (omega (arith, there.1)) there.2 in
        let same : of.0 ≡ x = same_Some of.0 x (sym of.1 ∙ at) in
        (there.0, ap (λ n. slice_get changes n) (ap place_of (sym same) ∙ of.3) ∙ there.2, sym of.2 ∙ ap (λ (y : SlotChange). y.slot) same)
    | inr past ↦ absurd (let within = slice_get_within found k x at in let whole = are.len in omega (arith, past.0))
  ];
  small = λ k x at. elim (slice_get_cases changes k).1 [
    | inl there ↦
        let of = are.each k there.0 (omega (arith, there.1)) there.2 in
        let same : of.0 ≡ x = same_Some of.0 x (sym of.1 ∙ at) in
        let place : k ≡ place_of x = sym of.3 ∙ ap place_of same in
        omega (arith, there.1)
    | inr past ↦ absurd (let within = slice_get_within found k x at in let whole = are.len in omega (arith, past.0))
  ];
}

-- what stands in a list stands in one of the same elements in another order
pub moved : {X : Type 0} (xs ys : List X) (k : ℕ) (x : X) → IsPermutation xs ys → slice_get xs k ≡ Some x → (l : ℕ) × (slice_get ys l ≡ Some x)
moved xs ys k x permutation at =
    let there = Contains-permutation xs ys x permutation (k, slice_get_within xs k x at, get_or_from_slice_get xs k x x at) in
    (there.0, slice_get_read ys (length ys) there.0 x refl there.1 (sym there.2))

pub HasChanges-moved : (changes : List Change) (xs ys : List SlotChange) → IsPermutation xs ys → HasChanges changes xs → HasChanges changes ys
HasChanges-moved changes xs ys permutation has = record {
  each = λ place change at.
      let there = has.each place change at in
      let now = moved xs ys there.0 there.1 permutation there.2 in
      (now.0, there.1, now.1, there.3, there.4);
  only = λ k x at.
      let before = moved ys xs k x (IsPermutation-sym xs ys permutation) at in
      has.only before.0 x before.1;
  small = λ k x at.
      let before = moved ys xs k x (IsPermutation-sym xs ys permutation) at in
      has.small before.0 x before.1;
}

-- changes in order that are split at the rank of the slot and the place
module _ (changes : List Change) (found : List SlotChange) (by : IsBySlot changes found) (slot at n rank : ℕ) (small : at < 18446744073709551616)
    (is : rank ≡ slot_rank slot at) (split : IsSplitAt found rank n) where
  low : (k : ℕ) (x : SlotChange) → k < n → slice_get found k ≡ Some x → change_rank x < slot_rank slot at
  low k x less at_x = let below = split.low k x less at_x in omega (arith, is)

  high : (k : ℕ) (x : SlotChange) → n ≤ k → slice_get found k ≡ Some x → slot_rank slot at ≤ change_rank x
  high k x from at_x = let above = split.high k x from at_x in omega (arith, is)

  -- a change of the slot before the place stands in the first n
  early : (q : ℕ) (change : Change) → q < at → slice_get changes q ≡ Some change → slot_of change ≡ slot
      → (k : ℕ) × (x : SlotChange) × (k < n) × (slice_get found k ≡ Some x) × (place_of x ≡ q) × (x.slot ≡ slot)
  early q change less at_q same = search (rules, cases_lt, low, high)

  pub quiet_split : n ≡ 0 → IsQuiet changes slot 0 at
  quiet_split none q change from to at_q same = let there = early q change to at_q same in omega (arith, there.2)

  module _ (x : SlotChange) (some : 1 ≤ n) (at_x : slice_get found (n - 1) ≡ Some x) where
    -- none of the first n stands after the last of them
    below_last : (k : ℕ) (y : SlotChange) → k < n → slice_get found k ≡ Some y → change_rank y ≤ change_rank x
    below_last k y less at_y =
        let up = by.sorted k (n - 1) x (omega arith) (slice_get_within found (n - 1) x at_x) in
        let is_y : get_or found k x ≡ y = get_or_from_slice_get found k y x at_y in
        let is_x : get_or found (n - 1) x ≡ x = get_or_from_slice_get found (n - 1) x x at_x in
        rw (is_y, is_x) at up

    pub quiet_split_other : (x.slot ≡ slot → ⊥) → IsQuiet changes slot 0 at
    quiet_split_other other q change from to at_q same = search (rules, early, below_last, low)

    pub last_split : x.slot ≡ slot → IsLast changes slot at (place_of x)
    last_split is = search (rules, early, below_last, low)

-- changes in order are split where the rank stands between two neighbours
pub IsSplitAt-between : (found : List SlotChange) (rank n : ℕ) → IsNonDecreasingBy change_rank found → n ≤ length found
    → ((x : SlotChange) → 1 ≤ n → slice_get found (n - 1) ≡ Some x → change_rank x < rank) → ((x : SlotChange) → slice_get found n ≡ Some x → rank ≤ change_rank x) → IsSplitAt found rank n
IsSplitAt-between found rank n sorted inside before after = record {
  bound = inside;
  low = λ k x less at. elim (slice_get_cases found (n - 1)).1 [
    | inl last ↦
        let least = before last.0 (omega arith) last.2 in
        let up = sorted k (n - 1) x (omega arith) (omega arith) in
        let is_x : get_or found k x ≡ x = get_or_from_slice_get found k x x at in
        let is_last : get_or found (n - 1) x ≡ last.0 = get_or_from_slice_get found (n - 1) last.0 x last.2 in
        let below : change_rank x ≤ change_rank last.0 = rw (is_x, is_last) at up in
        omega arith
    | inr past ↦ absurd (omega (arith, past.0))
  ];
  high = λ k x from at. elim (slice_get_cases found n).1 [
    | inl next ↦
        let most = after next.0 next.2 in
        let up = sorted n k x (omega arith) (slice_get_within found k x at) in
        let is_x : get_or found k x ≡ x = get_or_from_slice_get found k x x at in
        let is_next : get_or found n x ≡ next.0 = get_or_from_slice_get found n next.0 x next.2 in
        let above : change_rank next.0 ≤ change_rank x = rw (is_next, is_x) at up in
        omega arith
    | inr past ↦ absurd (let within = slice_get_within found k x at in omega (arith, past.0))
  ];
}

-- what a partition point says of the elements before it, and from it on
pub low_from : (found : List SlotChange) (rank n : ℕ) → AllWithin (λ y. ltb (change_rank y) rank ≡ true) found 0 n
    → (k : ℕ) (x : SlotChange) → k < n → slice_get found k ≡ Some x → change_rank x < rank
low_from found rank n all k x less at = ltb-true _ _ (ap (λ (y : SlotChange). ltb (change_rank y) rank) (sym (get_or_from_slice_get found k x x at)) ∙ all k x (omega arith) less)

pub high_from : (found : List SlotChange) (rank n : ℕ) → AllWithin (λ y. ltb (change_rank y) rank ≡ false) found n (length found)
    → (k : ℕ) (x : SlotChange) → n ≤ k → slice_get found k ≡ Some x → rank ≤ change_rank x
high_from found rank n all k x from at = search (rules, ltb-false, get_or_from_slice_get, slice_get_within)

-- a slot holds what it held while no change of it comes
quiet_from : (changes : List Change) (slot from m : ℕ) → IsQuiet changes slot from (from + m) → from + m ≤ length changes
    → map.get (replay (take (from + m) changes)) slot ≡ map.get (replay (take from changes)) slot
quiet_from changes slot from zero quiet inside = let e : from + 0 ≡ from = omega arith in ap (λ k. map.get (replay (take k changes)) slot) e
quiet_from changes slot from (suc m) quiet inside =
    let before = quiet_from changes slot from m (λ q change low high. quiet q change low (omega arith)) (omega arith) in
    let next : from + suc m ≡ (from + m) + 1 = omega arith in
    elim (slice_get_cases changes (from + m)).1 [
      | inl there ↦
          ap (λ k. map.get (replay (take k changes)) slot) next
          ∙ get_taken changes (from + m) there.0 slot there.2
          ∙ ap (λ b. cond b (left_by there.0) (map.get (replay (take (from + m) changes)) slot))
          (ne_eqb slot (slot_of there.0) (λ e. quiet (from + m) there.0 (omega arith) (omega arith) there.2 (sym e)))
          ∙ before
      | inr past ↦ absurd (omega (arith, past.0))
    ]

-- where no change of the slot stands before the place, it holds nothing
pub holds_none : (changes : List Change) (slot at : ℕ) → IsQuiet changes slot 0 at → at ≤ length changes → map.get (replay (take at changes)) slot ≡ None
holds_none changes slot at quiet inside =
    let e : 0 + at ≡ at = omega arith in
    ap (λ k. map.get (replay (take k changes)) slot) (sym e)
    ∙ quiet_from changes slot 0 at (subst (IsQuiet changes slot 0) (sym e) quiet) (omega arith)
    ∙ get_none slot

-- the slot holds what the last change of it left
pub holds_last : (changes : List Change) (slot at place : ℕ) (change : Change) → IsLast changes slot at place → at ≤ length changes → slice_get changes place ≡ Some change
    → map.get (replay (take at changes)) slot ≡ left_by change
holds_last changes slot at place change last inside at_place =
    let of_slot : slot ≡ slot_of change = sym last.here.2 ∙ ap slot_of (same_Some last.here.0 change (sym last.here.1 ∙ at_place)) in
    let before = last.before in
    let m : (place + 1) + (at - (place + 1)) ≡ at = omega arith in
    ap (λ k. map.get (replay (take k changes)) slot) (sym m)
    ∙ quiet_from changes slot (place + 1) (at - (place + 1)) (subst (IsQuiet changes slot (place + 1)) (sym m) last.quiet) (omega arith)
    ∙ get_taken changes place change slot at_place
    ∙ ap (λ b. cond b (left_by change) (map.get (replay (take place changes)) slot)) (eq-eqb slot (slot_of change) of_slot)

-- no key has a value before the first change
pub value_after-none : (changes : List Change) (at : ℕ) (key : Key) → at ≡ 0 → value_after (take at changes) key ≡ None
value_after-none changes at key none = rw none (ap (value_if key.generation) (get_none key.slot))
