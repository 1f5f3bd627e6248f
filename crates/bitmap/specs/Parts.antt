-- Numbers by parts of 256, and the set of the parts that have one. No public clause cites this
-- module.
use Rattle.std.specs.Prelude.{◌≡◌, ℕ, ◌*◌, ◌<◌, ◌≤◌, ◌/◌, ◌%◌, Bool, true, false, List, [], Option, Some, None, length}
use Rattle.std.specs.List.{slice_index_or}
use Rattle.std.specs.FinSet as set
use Rattle.bitmap.specs.Slots.{SlotSet, slots_where}
use Rattle.bitmap.specs.declared.bits.TheConstants.{SLOTS}

-- whether the parts have the number: slot j of part k is number 256 k + j
abbrev pub has_number : List SlotSet → ℕ → Bool
has_number parts n = set.contains (slice_index_or parts (n / SLOTS) set.empty) (n % SLOTS)

-- the numbers that the parts have
unfoldable pub numbers_in : List SlotSet → SlotSet
numbers_in parts = slots_where (has_number parts) (SLOTS * length parts)

-- whether the number is among those that the parts have
abbrev pub in_parts : List SlotSet → ℕ → Bool
in_parts parts n = set.contains (numbers_in parts) n

-- no number of the part is in the set
abbrev pub HasNoneIn : SlotSet → ℕ → Type 0
HasNoneIn numbers part = (n : ℕ) → n / SLOTS ≡ part → set.contains numbers n ≡ false

-- no number from the limit on is in the set
abbrev pub HasNoneFrom : SlotSet → ℕ → Type 0
HasNoneFrom numbers limit = (n : ℕ) → limit ≤ n → set.contains numbers n ≡ false

-- the least number of the part that is in the set
pub record IsLowestIn (numbers : SlotSet) (part n : ℕ) : Type 0 where
  pub inside : set.contains numbers n ≡ true
  pub part_is : n / SLOTS ≡ part
  pub lower : (other : ℕ) → set.contains numbers other ≡ true → other / SLOTS ≡ part → n ≤ other

-- a part is in the second set exactly where a number of it is in the first
pub record IsSummary (numbers filled : SlotSet) : Type 0 where
  pub has : (n : ℕ) → set.contains numbers n ≡ true → set.contains filled (n / SLOTS) ≡ true
  pub some : (part : ℕ) → set.contains filled part ≡ true → (n : ℕ) × (n / SLOTS ≡ part)
      × (set.contains numbers n ≡ true)

-- the same of the parts below the limit alone, and no other that there is not is in the second set
pub record IsSummaryTo (numbers filled : SlotSet) (limit count : ℕ) : Type 0 where
  pub has : (n : ℕ) → set.contains numbers n ≡ true → n / SLOTS < limit
      → set.contains filled (n / SLOTS) ≡ true
  pub some : (part : ℕ) → set.contains filled part ≡ true → part < limit
      → (n : ℕ) × (n / SLOTS ≡ part) × (set.contains numbers n ≡ true)
  pub within : (part : ℕ) → set.contains filled part ≡ true → part < count

-- the parts of levels that may have no memory yet
abbrev pub parts_in : Option (List SlotSet) → List SlotSet
parts_in None = []
parts_in (Some parts) = parts
