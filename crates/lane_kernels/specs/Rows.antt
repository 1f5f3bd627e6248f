-- Many sets as a row of bits for each slot.
use Rattle.std.specs.Prelude.{ℕ, ◌≡◌, ◌<◌, ◌≤◌, ◌*◌, ◌+◌, ◌/◌, Bool, true, false, not, List, length, take, drop, slice_index, slice_index_or, ◌==◌}
use Rattle.std.specs.FinSet.{contains, len}
use Rattle.std.specs.Int.{bit_at}
use Rattle.std.specs.List.{list_all}
use Rattle.bitmap.specs.Slots.{SlotSet, has_bit}
use Rattle.lane_kernels.specs.Planes.{column}
use Rattle.bitmap.specs.declared.bits.TheConstants.{SLOTS}

-- the words of a row with a bit for each of n sets
abbrev pub width_of : ℕ → ℕ
width_of n = (n + 63) / 64

-- row i of rows that stand one after another, each of so many words
abbrev pub row_at : ℕ → List ℕ → ℕ → List ℕ
row_at width words i = take width (drop (width * i) words)

-- so many words, filled up to blocks of sixteen
abbrev pub padded : ℕ → ℕ
padded words = (words + 15) / 16 * 16

-- row k of the rows of slots, each with a bit for each of n sets
abbrev pub slot_row : ℕ → List ℕ → ℕ → List ℕ
slot_row n rows k = row_at (padded (width_of n)) rows k

-- whether word w has bit b
abbrev pub bit_in : List ℕ → ℕ → ℕ → Bool
bit_in words w b = bit_at (slice_index words w) b == 1

-- the rows of so many slots from the first on: bit j of row k says whether set j has slot first + k
pub record HaveSlots (sets : List SlotSet) (first count : ℕ) (rows : List ℕ) : Type 0 where
  pub size : length rows ≡ padded (width_of (length sets)) * count
  pub bits : (k j : ℕ) (d : SlotSet) → k < count → j < length sets
      → has_bit (slot_row (length sets) rows k) j
      ≡ contains (slice_index_or sets j d) (first + k)

-- a row for each slot
abbrev pub AreSlotRows : List SlotSet → List ℕ → Type 0
AreSlotRows sets rows = HaveSlots sets 0 SLOTS rows

-- the same where the sets stand in columns: bit j of row k says whether column j has slot first + k
pub record AreBitRows (p q r s : List ℕ) (first n : ℕ) (rows : List ℕ) : Type 0 where
  pub size : length rows ≡ padded (width_of (length p)) * n
  pub bits : (k j : ℕ) → k < n → j < length p → has_bit (slot_row (length p) rows k) j
      ≡ has_bit (column p q r s j) (first + k)

-- a row with a bit for each of the sets, and no other
pub record IsFullRow (sets : List SlotSet) (row : List ℕ) : Type 0 where
  pub width : length row ≡ width_of (length sets)
  pub bits : (j : ℕ) → j < length sets → has_bit row j ≡ true
  pub rest : (j : ℕ) → length sets ≤ j → has_bit row j ≡ false

-- a number for each 64 sets, of which each has so many slots at least
pub record AreFewest (sets : List SlotSet) (fewest : List ℕ) : Type 0 where
  pub width : length fewest ≡ width_of (length sets)
  pub each : (j : ℕ) (d : SlotSet) → j < length sets
      → slice_index fewest (j / 64) ≤ len (slice_index_or sets j d)

-- whether bit j is in no row of these slots
abbrev pub survives : ℕ → List ℕ → ℕ → List ℕ → Bool
survives width rows j slots = list_all (λ slot. not (has_bit (row_at width rows slot) j)) slots

-- bit b of the word at place k of its row is 0 in the row of each slot of a word, where the row of
-- bit 0 begins at 0
abbrev pub IsClear : ℕ → List ℕ → ℕ → ℕ → ℕ → Type 0
IsClear word rows width k b = (q : ℕ) → q < 64 → bit_at word q ≡ 1
    → bit_at (slice_index rows (k + width * q)) b ≡ 0

-- the same for each of the first n slots that the words have
abbrev pub IsClearIn : List ℕ → List ℕ → ℕ → ℕ → ℕ → ℕ → Type 0
IsClearIn words rows width k b n = (q : ℕ) → q < n → has_bit words q ≡ true
    → bit_at (slice_index rows (k + width * q)) b ≡ 0
