-- What a span keeps of each slot: a mark. No public clause cites this module.
use Rattle.std.specs.Prelude.{◌≡◌, ◌+◌, ◌/◌, ◌%◌, ◌^◌, ◌<◌, ◌≤◌, ◌==◌, ℕ, Bool, List, length, slice_index}
use Rattle.span.specs.Classes.{slots_in}
use Rattle.span.specs.declared.class.Class.{Class}
use Rattle.span.specs.declared.marks.Marks.{Marks}
use Rattle.span.specs.declared.marks.Marks.TheVariants.{Bytes, Words, Longs}

-- the mark of each slot, where a slot past the end has 0
abbrev pub marks_of : Marks → List ℕ
marks_of (Bytes bytes) = bytes.items
marks_of (Words words) = words.items
marks_of (Longs longs) = longs.items

-- the slot's last generation
abbrev pub last_given : List ℕ → ℕ → ℕ
last_given marks slot = slice_index marks slot / 2

-- whether the slot is live
abbrev pub is_live_at : List ℕ → ℕ → Bool
is_live_at marks slot = slice_index marks slot % 2 == 1

-- no slot from this one on is live
abbrev pub HasNoLiveFrom : List ℕ → ℕ → Type 0
HasNoLiveFrom marks from = (slot : ℕ) → from ≤ slot → slice_index marks slot % 2 ≡ 0

-- the slot is the first from this one on that is live
pub record IsFirstLiveFrom (marks : List ℕ) (from slot : ℕ) : Type 0 where
  pub live : slice_index marks slot % 2 ≡ 1
  pub within : slot < length marks
  pub not_below : from ≤ slot
  pub first : (other : ℕ) → from ≤ other → other < slot → slice_index marks other % 2 ≡ 0

-- no more slots have a place than a page of the class has slots
abbrev pub FitInto : Class → Marks → Type 0
FitInto class marks = length (marks_of marks) ≤ slots_in class

-- the slot has its place, where its mark after one more put fits
abbrev pub HasRoom : ℕ → Marks → Type 0
HasRoom slot (Bytes bytes) = (slot < length bytes.items)
    × (slice_index bytes.items slot + 3 < 2 ^ 8)
HasRoom slot (Words words) = (slot < length words.items)
    × (slice_index words.items slot + 3 < 2 ^ 32)
HasRoom slot (Longs longs) = slot < length longs.items

-- there is a wider list
abbrev pub IsNarrow : Marks → Type 0
IsNarrow (Bytes bytes) = Unit {0}
IsNarrow (Words words) = Unit {0}
IsNarrow (Longs longs) = ⊥
