-- What contracts see of a page's words.
use Rattle.std.specs.Prelude.{◌≡◌, ℕ, ◌+◌, ◌*◌, ◌/◌, ◌%◌, ◌≤◌, ◌⊎◌, ◌==◌, Bool, false, true, List, Option, None, Some, if◌then◌else◌, length, map, replicate, slice_index}
use Rattle.std.specs.List.{list_all, range_with_len}
use Rattle.std.specs.FinSet as set
use Rattle.std.proofs.lemmas.List.FromFn.{length-map-range_with_len}
use Rattle.std.specs.Coded.{Coded, Coded-set, coded_ℕ, coded_list}
use base.Stored.{coded_via}
use lib.ListN.{length-replicate}
use mathlib.Core.HLevel.{is_prop→PathP}
use Rattle.bitmap.specs.Slots.{SlotSet}
use Rattle.bitmap.specs.declared.bits.TheConstants.{SLOTS}
use Rattle.span.specs.Classes.{width_of}
use Rattle.span.specs.declared.class.Class.{Class}

-- the words of a page: of one to sixteen words a slot, by the class of the objects on it
pub record Words : Type 0 where
  pub items : List ℕ
  pub whole : length items ≡ SLOTS

-- words are their list: how many they are has one proof
pub same_words : (a b : Words) → a.items ≡ b.items → a ≡ b
same_words a b items i = record {
  items = items i;
  whole = is_prop→PathP (λ i. length (items i) ≡ SLOTS) (λ i. Coded-set coded_ℕ _ _) a.whole b.whole
      i;
}

-- words are stored as their list
abbrev pub words_code : Coded Words
words_code = coded_via (coded_list coded_ℕ) (λ words. words.items) same_words

-- the object at a slot of the class: as many words as the class has
unfoldable pub object_in : Words → Class → ℕ → List ℕ
object_in words class slot = map (λ k. slice_index words.items (width_of class * slot + k))
    (range_with_len 0 (width_of class))

-- the words with another object at a slot of the class
unfoldable pub set_object : Words → Class → ℕ → List ℕ → Words
set_object words class slot object = record {
  items = map (λ j. if j / width_of class == slot then slice_index object (j % width_of class) else
      slice_index words.items j) (range_with_len 0 SLOTS);
  whole = length-map-range_with_len (λ j. if j / width_of class
      == slot then slice_index object (j % width_of class) else slice_index words.items j) 0 SLOTS;
}

-- the words of a new page, which are all 0
unfoldable pub blank_page : Words
blank_page = record { items = replicate SLOTS 0; whole = length-replicate {A = ℕ} SLOTS 0 }

-- the words after the objects of another page at the slots of the class were copied to the same
-- slots
unfoldable pub copied : Words → Class → SlotSet → Words → Words
copied words class slots others = record {
  items = map (λ j. if set.contains slots (j / width_of class) then slice_index others.items j else
      slice_index words.items j) (range_with_len 0 SLOTS);
  whole = length-map-range_with_len (λ j. if set.contains slots (j / width_of class) then
      slice_index others.items j else slice_index words.items j) 0 SLOTS;
}

-- each word of the object is 0
abbrev pub is_zeros : List ℕ → Bool
is_zeros object = list_all (λ word. word == 0) object

-- the words of a list, and zeros after them
unfoldable pub padded : List ℕ → Words
padded items = record {
  items = map (λ j. slice_index items j) (range_with_len 0 SLOTS);
  whole = length-map-range_with_len (λ j. slice_index items j) 0 SLOTS;
}

-- a page: its words, and how many of them it has in memory, from the first on; the others are 0
pub record PageState : Type 0 where
  pub words : Words
  pub room : ℕ

-- the page that has the words of a list in memory
abbrev pub page_with : List ℕ → PageState
page_with items = record { words = padded items; room = length items }

-- a page of zeros, with no word in memory
abbrev pub empty_page : PageState
empty_page = record { words = blank_page; room = 0 }

-- the words in memory end with an object of the class
abbrev pub IsInObjects : Class → ℕ → Type 0
IsInObjects class room = room % width_of class ≡ 0

-- the object at the slot is in memory
abbrev pub Reaches : PageState → Class → ℕ → Type 0
Reaches page class slot = width_of class * slot + width_of class ≤ page.room

-- the object needs no more words in memory at the slot: it is in memory there, or zeros
abbrev pub Takes : PageState → Class → ℕ → List ℕ → Type 0
Takes page class slot object = Reaches page class slot ⊎ (is_zeros object ≡ true)

-- the page with another object at the slot
abbrev pub with_object : PageState → Class → ℕ → List ℕ → PageState
with_object page class slot object =
    record page { words = set_object page.words class slot object }

-- the words of a page, if there is one
abbrev pub page_of : Bool → Words → Option Words
page_of is_paged words = if is_paged then Some words else None

-- what a group has of a page, of which it may have none: no word is in memory then
pub record MaybeState : Type 0 where
  pub page : Option Words
  pub room : ℕ

-- what a group of the class keeps of its page: the words in memory end with an object, and if there
-- is no page, the words are zeros
pub record IsPageOf (class : Class) (is_paged : Bool) (page : PageState) : Type 0 where
  pub whole : IsInObjects class page.room
  pub none : is_paged ≡ false → page.words ≡ blank_page
