-- A log's changes by slot, among which the last one of a slot is found by halving. No public clause
-- cites this module.
use Rattle.std.specs.Prelude.{◌≡◌, Vec, ℕ, ◌+◌, ◌*◌, ◌<◌, ◌≤◌, Some, List, length, slice_get, slice_index_or, vec_items}
use Rattle.std.specs.List.Sorted.{IsNonDecreasingBy, IsPermutation}
use Rattle.span.specs.declared.change.Change.{Change}
use Rattle.span.specs.KeptLogs.{kept_changes}
use Rattle.span.specs.declared.span_log.SpanLog.{SpanLog}
use Rattle.audit.specs.declared.slot.SlotChange.{SlotChange}
use Rattle.audit.specs.Changes.{slot_of}
use Rattle.std.specs.declared.alloc.Global.{Global}

-- the place among all changes by slot, and then by place in the log
abbrev pub slot_rank : ℕ → ℕ → ℕ
slot_rank slot place = 18446744073709551616 * slot + place

-- the place of a change in its log
abbrev pub place_of : SlotChange → ℕ
place_of change = 4294967296 * change.high + change.low

-- the rank of a change
abbrev pub change_rank : SlotChange → ℕ
change_rank change = slot_rank change.slot (place_of change)

-- the change at this place of the log has this slot
abbrev pub IsOf : List Change → SlotChange → Type 0
IsOf changes found = (change : Change) × (slice_get changes (place_of found) ≡ Some change)
    × (slot_of change ≡ found.slot)

-- each change of the log, and nothing else; a place is below 2^64
pub record HasChanges (changes : List Change) (found : List SlotChange) : Type 0 where
  pub each : (place : ℕ) (change : Change) → slice_get changes place ≡ Some change
      → (k : ℕ) × (x : SlotChange) × (slice_get found k ≡ Some x) × (place_of x ≡ place)
      × (x.slot ≡ slot_of change)
  pub only : (k : ℕ) (x : SlotChange) → slice_get found k ≡ Some x → IsOf changes x
  pub small : (k : ℕ) (x : SlotChange) → slice_get found k ≡ Some x
      → place_of x < 18446744073709551616

-- the changes of the log, by slot, and those of a slot in their order
pub record IsBySlot (changes : List Change) (found : List SlotChange) : Type 0 where
  pub has : HasChanges changes found
  pub sorted : IsNonDecreasingBy change_rank found

-- for each log its changes
abbrev pub HaveChanges : List SpanLog → List (List SlotChange) → Type 0
HaveChanges logs lists = (j : ℕ) (log : SpanLog) (found : List SlotChange)
    → slice_get logs j ≡ Some log → slice_get lists j ≡ Some found
    → HasChanges (kept_changes log.log) found

-- the same changes, in order
pub record IsSortedFrom (old new : List SlotChange) : Type 0 where
  pub permutation : IsPermutation old new
  pub sorted : IsNonDecreasingBy change_rank new

-- the same changes of each log, in order
abbrev pub AllAreSortedFrom : List (Vec SlotChange Global) → List (Vec SlotChange Global) → Type 0
AllAreSortedFrom old new = (j : ℕ) (d : Vec SlotChange Global) → j < length old
    → IsSortedFrom (vec_items (slice_index_or old j d)) (vec_items (slice_index_or new j d))

-- the first n of the changes stand before the rank, and the others don't
pub record IsSplitAt (found : List SlotChange) (rank n : ℕ) : Type 0 where
  pub bound : n ≤ length found
  pub low : (k : ℕ) (x : SlotChange) → k < n → slice_get found k ≡ Some x → change_rank x < rank
  pub high : (k : ℕ) (x : SlotChange) → n ≤ k → slice_get found k ≡ Some x → rank ≤ change_rank x

-- for each log its changes by slot
abbrev pub AreBySlot : List SpanLog → List (List SlotChange) → Type 0
AreBySlot logs orders = (j : ℕ) (log : SpanLog) (found : List SlotChange)
    → slice_get logs j ≡ Some log → slice_get orders j ≡ Some found
    → IsBySlot (kept_changes log.log) found

-- no change of the slot stands from the one place up to the other
abbrev pub IsQuiet : List Change → ℕ → ℕ → ℕ → Type 0
IsQuiet changes slot from to = (q : ℕ) (change : Change) → from ≤ q → q < to
    → slice_get changes q ≡ Some change → slot_of change ≡ slot → ⊥

-- the last change of the slot before a place
pub record IsLast (changes : List Change) (slot at place : ℕ) : Type 0 where
  pub before : place < at
  pub here : (change : Change) × (slice_get changes place ≡ Some change) × (slot_of change ≡ slot)
  pub quiet : IsQuiet changes slot (place + 1) at
