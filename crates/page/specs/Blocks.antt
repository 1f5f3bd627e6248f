-- Words of one list outside of some slots, and of another in them. No public clause cites this
-- module.
use Rattle.std.specs.Prelude.{◌≡◌, ℕ, ◌/◌, ◌<◌, List, if◌then◌else◌, length, slice_index}
use Rattle.std.specs.FinSet as set
use Rattle.bitmap.specs.Slots.{SlotSet}
use Rattle.span.specs.Classes.{width_of}
use Rattle.span.specs.declared.class.Class.{Class}

-- each word stays that lies in one of the slots, and the others are those of another list, or 0
-- where that has none
abbrev pub IsMerged : Class → SlotSet → List ℕ → List ℕ → List ℕ → Type 0
IsMerged class slots before others now = (k : ℕ) → k < length before → slice_index now k
    ≡ (if set.contains slots (k / width_of class) then slice_index before k else
    slice_index others k)
