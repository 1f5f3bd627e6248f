-- What a change does to its slot, as the walk over a log keeps it. No public clause cites this
-- module.
use Rattle.std.specs.Prelude.{◌≡◌, Bool, IsTrue, [], ℕ, ◌<◌, Option, Some, None, List, slice_index_or, ◌++◌, ◌∷◌, ◌↔◌}
use Rattle.std.specs.Option.{option_map}
use Rattle.std.specs.FinMap as map
use Rattle.span.specs.declared.change.Change.{Change}
use Rattle.span.specs.declared.change.Change.TheVariants.{Put, Set, Free}
use Rattle.span.specs.Log.{Held, replay, puts_of, IsChangeOf, IsLegalAfter, IsOfClass}
use Rattle.bitmap.specs.declared.bits.TheConstants.{SLOTS}
use Rattle.span.specs.declared.class.Class.{Class}

-- the slot of a change
abbrev pub slot_of : Change → ℕ
slot_of (Put slot generation value) = slot
slot_of (Set slot generation value) = slot
slot_of (Free slot generation) = slot

-- what the change's slot holds after it
abbrev pub left_by : Change → Option Held
left_by (Put slot generation value) = Some (record { generation = generation; value = value })
left_by (Set slot generation value) = Some (record { generation = generation; value = value })
left_by (Free slot generation) = None

-- the last generation of the change's slot after it, where this was the last before it
abbrev pub issued_by : Change → ℕ → ℕ
issued_by (Put slot generation value) last = generation
issued_by (Set slot generation value) last = last
issued_by (Free slot generation) last = last

-- the generation of what a slot holds
abbrev pub generation_of : Held → ℕ
generation_of held = held.generation

-- the list has the generation that each slot holds after the changes
abbrev pub AreAfter : List Change → List (Option ℕ) → Type 0
AreAfter changes held = (slot : ℕ) → slot < SLOTS → slice_index_or held slot None
    ≡ option_map generation_of (map.get (replay changes) slot)

-- the list has how many puts of each slot the changes have
abbrev pub AreIssued : List Change → List ℕ → Type 0
AreIssued changes issued = (slot : ℕ) → slot < SLOTS
    → slice_index_or issued slot 0 ≡ puts_of slot changes

-- whether the change is legal after changes that left this in the slots, if it and they are of one
-- class
abbrev pub TellsLegal : ℕ → List (Option ℕ) → List ℕ → Change → Bool → Type 0
TellsLegal gens held issued change legal = (class : Class) (before : List Change)
    → IsOfClass class before → IsChangeOf class change
    → AreAfter before held → AreIssued before issued
    → (IsTrue legal ↔ IsLegalAfter gens before change)

-- the list of how many puts of each slot some changes have becomes that of these and one more, if
-- that is legal after them
abbrev pub CountsChange : Change → List ℕ → List ℕ → Type 0
CountsChange change old new = (before : List Change) (gens : ℕ) → AreIssued before old
    → IsLegalAfter gens before change → AreIssued (before ++ change ∷ []) new
