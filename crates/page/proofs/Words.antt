-- The objects of a page after one was written.
use Rattle.std.proofs.Common.{suc, ◌≡◌, ℕ, ◌+◌, ◌*◌, ◌/◌, ◌%◌, ◌<◌, ◌≤◌, ◌==◌, if◌then◌else◌, List, length, get_or, ap, sym, ◌∙◌, refl, arith, eq-eqb}
use Rattle.std.proofs.Math.Nat.{mul_comm, mul-le-mul_left, mul-suc}
use Rattle.std.proofs.lemmas.Bool.{ne_eqb}
use Rattle.std.proofs.lemmas.Nat.{div-mul-add, mod-mul-add}
use Rattle.std.proofs.lemmas.List.FromFn.{fill_by_all, get_or-map-range_with_len, length-map-range_with_len}
use Rattle.span.specs.Classes.{slots_in, width_of}
use Rattle.span.specs.declared.class.Class.{Class}
use Rattle.span.proofs.Widths.{slots_in-fit, slots_in-most}
use Rattle.page.specs.Words.{Words, object_in, same_words, set_object}
use Rattle.bitmap.specs.declared.bits.TheConstants.{SLOTS}

-- the last word of a slot is on the page
pub last_of : (class : Class) (slot : ℕ) → slot < slots_in class → width_of class * slot + width_of class ≤ SLOTS
last_of class slot low =
    let most : width_of class * suc slot ≤ width_of class * slots_in class = mul-le-mul_left (width_of class) (omega (arith, low)) in
    omega (arith, most, slots_in-fit class, mul-suc (width_of class) slot)

-- the slots of a class lie on the page, one after another
pub on_page : (class : Class) (slot k : ℕ) → slot < slots_in class → k < width_of class → width_of class * slot + k < SLOTS
on_page class slot k low within = omega (arith, last_of class slot low, within)

-- a word of a slot tells the slot, and its place there
pub slot_of_word : (class : Class) (slot k : ℕ) → k < width_of class → (width_of class * slot + k) / width_of class ≡ slot
slot_of_word class slot k within =
    ap (λ n. (n + k) / width_of class) (mul_comm (width_of class) slot) ∙ div-mul-add slot (width_of class) k within

pub place_of_word : (class : Class) (slot k : ℕ) → k < width_of class → (width_of class * slot + k) % width_of class ≡ k
place_of_word class slot k within =
    ap (λ n. (n + k) % width_of class) (mul_comm (width_of class) slot) ∙ mod-mul-add slot (width_of class) k within

-- a list is an object's where it has its words
pub object_in-from : (words : Words) (class : Class) (slot : ℕ) (object : List ℕ) → length object ≡ width_of class
    → ((k : ℕ) → k < width_of class → get_or object k 0 ≡ get_or words.items (width_of class * slot + k) 0) → object ≡ object_in words class slot
unfolding object_in
object_in-from words class slot object long each =
    fill_by_all (λ k. get_or words.items (width_of class * slot + k) 0) object (width_of class) 0 long each

pub length-object_in : (words : Words) (class : Class) (slot : ℕ) → length (object_in words class slot) ≡ width_of class
unfolding object_in
length-object_in words class slot = length-map-range_with_len (λ k. get_or words.items (width_of class * slot + k) 0) 0 (width_of class)

pub get_or-object_in : (words : Words) (class : Class) (slot k : ℕ) → k < width_of class → get_or (object_in words class slot) k 0 ≡ get_or words.items (width_of class * slot + k) 0
unfolding object_in
get_or-object_in words class slot k within = get_or-map-range_with_len (λ k. get_or words.items (width_of class * slot + k) 0) 0 (width_of class) k k 0 within (omega arith)

module _ (words : Words) (class : Class) (slot : ℕ) (object : List ℕ) where
  -- the word at a place of the page, after the object was written
  pub get_or-set_object : (j : ℕ) → j < SLOTS
      → get_or (set_object words class slot object).items j 0
      ≡ (if j / width_of class == slot then get_or object (j % width_of class) 0 else get_or words.items j 0)
  unfolding set_object
  get_or-set_object j low = get_or-map-range_with_len
      (λ j. if j / width_of class == slot then get_or object (j % width_of class) 0 else get_or words.items j 0) 0 SLOTS j j 0 low (omega arith)

  -- words are those after the write, where each of them is
  pub set_object-from : (after : Words)
      → ((j : ℕ) → j < SLOTS → get_or after.items j 0 ≡ (if j / width_of class == slot then get_or object (j % width_of class) 0 else get_or words.items j 0))
      → after ≡ set_object words class slot object
  unfolding set_object
  set_object-from after each =
      same_words _ _ (fill_by_all (λ j. if j / width_of class == slot then get_or object (j % width_of class) 0 else get_or words.items j 0) after.items SLOTS 0
      after.whole each)

  pub object_in-set_object_same : slot < slots_in class → length object ≡ width_of class → object_in (set_object words class slot object) class slot ≡ object
  object_in-set_object_same low long = sym (object_in-from (set_object words class slot object) class slot object long (λ k within.
      sym (get_or-set_object (width_of class * slot + k) (on_page class slot k low within)
      ∙ rw (eq-eqb _ _ (slot_of_word class slot k within), place_of_word class slot k within) refl)))

  pub object_in-set_object_other : (q : ℕ) → q < slots_in class → (q ≡ slot → ⊥) → object_in (set_object words class slot object) class q ≡ object_in words class q
  object_in-set_object_other q low apart =
      object_in-from words class q (object_in (set_object words class slot object) class q) (length-object_in (set_object words class slot object) class q) (λ k within.
      get_or-object_in (set_object words class slot object) class q k within
      ∙ get_or-set_object (width_of class * q + k) (on_page class q k low within)
      ∙ rw (ne_eqb _ slot (λ e. apart (sym (slot_of_word class q k within) ∙ e))) refl)

-- a slot of a class is one of a byte
pub on_page_slot : (class : Class) (slot : ℕ) → slot < slots_in class → slot < SLOTS
on_page_slot class slot low = omega (arith, low, slots_in-most class)
