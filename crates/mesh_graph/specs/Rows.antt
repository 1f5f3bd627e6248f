-- The rows of bits of a graph, and what a runner fills.
use Rattle.std.specs.Prelude.{ℕ, ◌≡◌, ◌<◌, ◌≤◌, ◌+◌, ◌*◌, ◌&&◌, Bool, List, Option, length, slice_index_or, take, drop}
use Rattle.std.specs.List.{slice_get}
use Rattle.bitmap.specs.Slots.{SlotSet, has_bit}
use Rattle.lane_kernels.specs.Disjoint.{fits}
use Rattle.lane_kernels.specs.Rows.{HaveSlots, padded, row_at, width_of}
use Rattle.span.specs.declared.entry.Entry.{Entry}
use Rattle.mesh_graph.specs.Groups.{Groups, compatible_at}
use Rattle.mesh_graph.specs.Masked.{is_kept}
use Rattle.mesh_graph.specs.declared.by_class.Masks.{Masks}
use Rattle.mesh_graph.specs.declared.build.TheConstants.{MOST_GROUPS}

-- bit j of a group's row: its set shares no slot with set j, and set j is of its class
abbrev pub row_bit : List SlotSet → Option Masks → Entry → ℕ → Bool
row_bit sets masks x j = is_kept masks x.class j && fits x.occupied (slice_get sets j)

-- the rows of the first n groups
pub record HaveRows (abandoned : List Entry) (sets : List SlotSet) (masks : Option Masks) (n : ℕ)
    (words : List ℕ) : Type 0 where
  pub size : length words ≡ width_of (length sets) * n
  pub bits : (i j : ℕ) (x : Entry) → i < n → has_bit (row_at (width_of (length sets)) words i) j
      ≡ row_bit sets masks (slice_index_or abandoned i x) j

-- a row for each abandoned group, of which there are at most 4,096 on a side: bit j of row i says
-- whether groups i and j are compatible
pub record AreRows (s : Groups) (words : List ℕ) : Type 0 where
  pub abandoned_at_most : length s.abandoned ≤ MOST_GROUPS
  pub owned_at_most : length s.owned ≤ MOST_GROUPS
  pub size : length words ≡ width_of (length s.owned) * length s.abandoned
  pub bits : (i j : ℕ) → i < length s.abandoned → has_bit
      (row_at (width_of (length s.owned)) words i) j ≡ compatible_at s i j

-- so many words from a place on are the rows of neighbours, of a width each, among those of n
-- groups
pub record IsRun (width n start len : ℕ) : Type 0 where
  pub first : ℕ
  pub count : ℕ
  pub some : 1 ≤ width
  pub start_is : start ≡ width * first
  pub len_is : len ≡ width * count
  pub within : first + count ≤ n

-- the words are the rows of the slots whose own stand from a place on, among the rows of all slots
abbrev pub AreSlotsOfRun : List SlotSet → ℕ → ℕ → List ℕ → Type 0
AreSlotsOfRun sets start len words = (first count : ℕ)
    → start ≡ padded (width_of (length sets)) * first
    → len ≡ padded (width_of (length sets)) * count
    → HaveSlots sets first count words

-- the words are the rows of the groups whose own stand from a place on, among the rows of all
abbrev pub AreRowsOfRun : List Entry → List SlotSet → Option Masks → ℕ → ℕ → List ℕ → Type 0
AreRowsOfRun abandoned sets masks start len words = (first count : ℕ)
    → start ≡ width_of (length sets) * first → len ≡ width_of (length sets) * count
    → HaveRows (take count (drop first abandoned)) sets masks count words
