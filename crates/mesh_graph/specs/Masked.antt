-- Rows of bits that keep to one class, as a runner is handed their masks.
use Rattle.std.specs.Prelude.{ℕ, ◌≡◌, ◌==◌, ◌*◌, Bool, true, false, List, length, Option, Some, None}
use Rattle.std.specs.List.{slice_get}
use Rattle.bitmap.specs.Slots.{has_bit}
use Rattle.lane_kernels.specs.Rows.{row_at, width_of as row_words}
use Rattle.span.specs.Classes.{number_of, width_of}
use Rattle.span.specs.declared.class.Class.{Class}
use Rattle.span.specs.declared.class.TheConstants.{CLASSES}
use Rattle.span.specs.declared.entry.Entry.{Entry}
use Rattle.mesh_graph.specs.declared.by_class.Masks.{Masks}

-- whether a group, where there is one, is of the class
abbrev pub is_of : Class → Option Entry → Bool
is_of class None = false
is_of class (Some y) = width_of class == width_of y.class

-- the mask of the class, which stands at the class's number
abbrev pub mask_in : Masks → Class → List ℕ
mask_in masks class = row_at masks.width masks.words.items (number_of class)

-- a row of so many words for each class
abbrev pub HasRows : Masks → ℕ → Type 0
HasRows masks words = (masks.width ≡ words) × (length masks.words.items ≡ words * CLASSES)

-- rows of so many words, that of a class at its number, have a bit for each owned group, which says
-- whether it is of the class
abbrev pub HaveClassBits : List Entry → ℕ → List ℕ → Type 0
HaveClassBits owned width words = (class : Class) (j : ℕ)
    → has_bit (row_at width words (number_of class)) j ≡ is_of class (slice_get owned j)

-- the mask of each class has a bit for each owned group, which says whether it is of the class
pub record AreMasks (owned : List Entry) (masks : Masks) : Type 0 where
  pub rows : HasRows masks (row_words (length owned))
  pub bits : HaveClassBits owned masks.width masks.words.items

-- each group of the one side has the class of each of the other
abbrev pub AreOfOneClass : List Entry → List Entry → Type 0
AreOfOneClass abandoned owned = (i j : ℕ) (x y : Entry) → slice_get abandoned i ≡ Some x
    → slice_get owned j ≡ Some y → width_of x.class ≡ width_of y.class

-- whether bit j stays where the bits of a class are kept; without masks all stay
abbrev pub is_kept : Option Masks → Class → ℕ → Bool
is_kept None class j = true
is_kept (Some masks) class j = has_bit (mask_in masks class) j

-- each mask, where there are any, has so many words
abbrev pub AreAsWide : Option Masks → ℕ → Type 0
AreAsWide None words = Unit {0}
AreAsWide (Some masks) words = HasRows masks words
