-- Words in memory, and the zeros after them.
use borrow.Rule.Slice.PartMut.{put_mid}
use lib.ListN.{length-replicate}
use Rattle.std.proofs.Common.{zero, suc, ◌≡◌, ◌⊎◌, ℕ, ◌+◌, ◌-◌, ◌*◌, ◌/◌, ◌%◌, ◌<◌, ◌≤◌, ◌==◌, ◌++◌, true, if◌then◌else◌, List, [], ◌∷◌, length, get_or, set, take, drop, replicate, ap, sym, ◌∙◌, refl, inl, inr, arith, eq-eqb, eqb, eqb-true, rules}
use Rattle.std.specs.List.{between}
use Rattle.std.specs.Cmp.{first_so, second_so}
use Rattle.std.proofs.Math.Nat.{div-add-mod, mod-lt, mul-le-mul_left, mul-suc, mul_comm, one-mul, lt_of_mul-lt-mul_left}
use Rattle.std.proofs.lemmas.Bool.{cases_eq, cases_lt, ne_eqb}
use Rattle.std.proofs.lemmas.Nat.{mod-mul-add}
use Rattle.std.proofs.lemmas.List.{get_or-append_right, get_or-drop, get_or-replicate, get_or-set_other, get_or-set_same, get_or-take, get_or_append_left, get_or_past, length-append, length-drop, length-set, length-take-le}
use Rattle.std.proofs.lemmas.List.Edits.{get_or-between}
use Rattle.std.proofs.lemmas.List.FromFn.{fill_by_all, get_or-map-range_with_len}
use Rattle.span.specs.Classes.{slots_in, width_of}
use Rattle.span.specs.declared.class.Class.{Class}
use Rattle.span.proofs.Widths.{width_of-least}
use Rattle.page.specs.Words.{IsInObjects, Takes, Words, blank_page, is_zeros, object_in, padded, page_with, same_words, set_object, with_object}
use Rattle.page.proofs.Words.{object_in-from, on_page, set_object-from, slot_of_word}
use Rattle.bitmap.specs.declared.bits.TheConstants.{SLOTS}

pub get_or-padded : (items : List ℕ) (j : ℕ) → j < SLOTS → get_or (padded items).items j 0 ≡ get_or items j 0
unfolding padded
get_or-padded items j low = get_or-map-range_with_len (λ j. get_or items j 0) 0 SLOTS j j 0 low (omega arith)

-- words are those of a list where each of them is
pub padded-from : (items : List ℕ) (words : Words) → ((j : ℕ) → j < SLOTS → get_or words.items j 0 ≡ get_or items j 0) → words ≡ padded items
unfolding padded
padded-from items words each = same_words _ _ (fill_by_all (λ j. get_or items j 0) words.items SLOTS 0 words.whole each)

pub padded-same : (before after : List ℕ) → ((j : ℕ) → j < SLOTS → get_or after j 0 ≡ get_or before j 0) → padded after ≡ padded before
padded-same before after each = padded-from before (padded after) (λ j low. get_or-padded after j low ∙ each j low)

pub get_or-blank : (k : ℕ) → k < SLOTS → get_or blank_page.items k 0 ≡ 0
unfolding blank_page
get_or-blank k low = get_or-replicate SLOTS k 0 0 low

pub padded-none : padded [] ≡ blank_page
padded-none = sym (padded-from [] blank_page get_or-blank)

-- zeros after the words change none
pub padded-longer : (items more : List ℕ) (n : ℕ) → more ≡ replicate {A = ℕ} n 0 → padded (items ++ more) ≡ padded items
padded-longer items more n are = padded-same items (items ++ more) (λ j low. elim (cases_lt j (length items)) [
  | inl here ↦ get_or_append_left items more 0 j here
  | inr after ↦ get_or-append_right items more (length items) j 0 refl (omega (arith, after)) ∙ ap (λ l. get_or l (j - length items) 0) are ∙ of_zeros (j - length items) (cases_lt (j - length items) n)
      ∙ sym (get_or_past items j 0 (omega (arith, after)))
])
  where
    of_zeros : (k : ℕ) → (k < n) ⊎ (n ≤ k) → get_or {A = ℕ} (replicate n 0) k 0 ≡ 0
    of_zeros k (inl low) = get_or-replicate n k 0 0 low
    of_zeros k (inr high) = get_or_past (replicate n 0) k 0 (omega (arith, high, length-replicate {A = ℕ} n 0))

-- each word of zeros is 0
pub get_or-zeros : (object : List ℕ) (k : ℕ) → is_zeros object ≡ true → get_or object k 0 ≡ 0
get_or-zeros [] k zeros = refl
get_or-zeros (word ∷ object) zero zeros = eqb-true word 0 (first_so (eqb word 0) (is_zeros object) zeros)
get_or-zeros (word ∷ object) (suc k) zeros = get_or-zeros object k (second_so (eqb word 0) (is_zeros object) zeros)

-- and so is each of some of them
pub is_zeros-take : (n : ℕ) (object : List ℕ) → is_zeros object ≡ true → is_zeros (take n object) ≡ true
is_zeros-take zero object zeros = refl
is_zeros-take (suc n) [] zeros = refl
is_zeros-take (suc n) (word ∷ object) zeros = rw (first_so (eqb word 0) (is_zeros object) zeros) (is_zeros-take n object (second_so (eqb word 0) (is_zeros object) zeros))

-- the words in memory end before a slot, or behind it
pub ends_before : (class : Class) (slot room : ℕ) → IsInObjects class room → room < width_of class * slot + width_of class → room ≤ width_of class * slot
ends_before class slot room whole low =
    let width = width_of class in
    let many : width * (room / width) ≡ room = omega (arith, div-add-mod room width, whole) in
    let few : room / width < suc slot = lt_of_mul-lt-mul_left width (omega (arith, many, low, mul-suc width slot)) in
    let low : width * (room / width) ≤ width * slot = mul-le-mul_left width (omega (arith, few)) in
    omega (arith, many, low)

-- a length that ends with an object, behind each slot that the block has room for
pub rounded : (class : Class) (block : ℕ) → IsInObjects class (block - block % width_of class)
rounded class block =
    let width = width_of class in
    let is : block - block % width ≡ block / width * width + 0 = omega (arith, div-add-mod block width, mul_comm width (block / width)) in
    ap (λ n. n % width) is ∙ mod-mul-add (block / width) width 0 (omega (arith, width_of-least class))

pub rounded-reaches : (class : Class) (slot block : ℕ) → width_of class * slot + width_of class ≤ block → width_of class * slot + width_of class ≤ block - block % width_of class
rounded-reaches class slot block low =
    let width = width_of class in
    let whole = div-add-mod block width in
    let most = mod-lt block (width_of-least class) in
    let more : suc slot < suc (block / width) = lt_of_mul-lt-mul_left width (omega (arith, whole, most, low, mul-suc width slot, mul-suc width (block / width))) in
    let all : width * suc slot ≤ width * (block / width) = mul-le-mul_left width (omega (arith, more)) in
    omega (arith, whole, all, mul-suc width slot)

-- the object at a slot: its words, or zeros if they are not in memory
pub object_in-run : (items : List ℕ) (class : Class) (slot first : ℕ) (object : List ℕ) → first ≡ width_of class * slot → slot < slots_in class
    → IsInObjects class (length items) → length object ≡ width_of class
    → (first + width_of class ≤ length items → object ≡ between first (first + width_of class) items)
    → (length items < first + width_of class → is_zeros object ≡ true)
    → object ≡ object_in (padded items) class slot
object_in-run items class slot first object is low whole long there beyond =
    object_in-from (padded items) class slot object long (λ k within. each k within (cases_lt (length items) (first + width_of class)) ∙ sym (get_or-padded items (width_of class * slot + k) (on_page class slot k low within)))
  where
    each : (k : ℕ) → k < width_of class → (length items < first + width_of class) ⊎ (first + width_of class ≤ length items) → get_or object k 0 ≡ get_or items (width_of class * slot + k) 0
    each k within (inl short) =
        let before : length items ≤ width_of class * slot = ends_before class slot (length items) whole (omega (arith, is, short)) in
        get_or-zeros object k (beyond short) ∙ sym (get_or_past items (width_of class * slot + k) 0 (omega (arith, before)))
    each k within (inr reaches) =
        ap (λ l. get_or l k 0) (there reaches) ∙ get_or-between items first (first + width_of class) k 0 (omega (arith, within)) ∙ ap (λ n. get_or items (n + k) 0) is

-- the words of a page after an object was written, where each of them is
pub set_object-padded : (items after : List ℕ) (class : Class) (slot : ℕ) (object : List ℕ)
    → ((j : ℕ) → j < SLOTS → get_or after j 0 ≡ (if j / width_of class == slot then get_or object (j % width_of class) 0 else get_or items j 0))
    → padded after ≡ set_object (padded items) class slot object
set_object-padded items after class slot object each =
    set_object-from (padded items) class slot object (padded after) (λ j low.
    get_or-padded after j low ∙ each j low ∙ ap (λ x. if j / width_of class == slot then get_or object (j % width_of class) 0 else x) (sym (get_or-padded items j low)))

-- one word, where an object is one
pub set_object-word : (items : List ℕ) (class : Class) (slot first : ℕ) (object : List ℕ) (x : ℕ) → width_of class ≡ 1 → first ≡ slot
    → first < length items → x ≡ get_or object 0 0 → padded (set items first x) ≡ set_object (padded items) class slot object
set_object-word items class slot first object x one is low value =
    set_object-padded items (set items first x) class slot object (of_class class one)
  where
    of_class : (class : Class) → width_of class ≡ 1 → (j : ℕ) → j < SLOTS
        → get_or (set items first x) j 0 ≡ (if j / width_of class == slot then get_or object (j % width_of class) 0 else get_or items j 0)
    of_class class one j there = rw one (elim (cases_eq j first) [
      | inl here ↦
          let at : j / 1 ≡ slot = omega (arith, here, is) in
          let zero_th : j % 1 ≡ 0 = omega arith in
          rw (eq-eqb _ _ at, zero_th, here) (get_or-set_same items first x 0 low ∙ value)
      | inr other ↦
          let apart : j / 1 ≡ slot → ⊥ = λ e. other (omega (arith, e, is)) in
          rw (ne_eqb _ _ apart) (get_or-set_other items first j x 0 other)
    ])

-- a word of the page that lies in a slot
in_slot : (class : Class) (slot j : ℕ) → j / width_of class ≡ slot → (width_of class * slot ≤ j) × (j < width_of class * slot + width_of class) × (j % width_of class ≡ j - width_of class * slot)
in_slot class slot j is = search (rules, div-add-mod, mod-lt, width_of-least)

-- and one that lies outside
out_of_slot : (class : Class) (slot j : ℕ) → (j / width_of class ≡ slot → ⊥) → (j < width_of class * slot) ⊎ (width_of class * slot + width_of class ≤ j)
out_of_slot class slot j apart = search (rules, cases_lt, slot_of_word)

-- the words of a list after some were written from a place on
module _ (xs ys : List ℕ) (a n : ℕ) (within : a + n ≤ length xs) (long : length ys ≡ n) (j : ℕ) where
  abbrev pasted : List ℕ
  pasted = put_mid a n xs ys

  long_front : length (take a xs) ≡ a
  long_front = length-take-le a xs (omega (arith, within))

  pub get_or-before : j < a → get_or pasted j 0 ≡ get_or xs j 0
  get_or-before low = get_or_append_left (take a xs) _ 0 j (omega (arith, low, long_front)) ∙ get_or-take a xs j 0 low

  pub get_or-inside : a ≤ j → j < a + n → get_or pasted j 0 ≡ get_or ys (j - a) 0
  get_or-inside from below = get_or-append_right (take a xs) _ a j 0 long_front from ∙ get_or_append_left ys _ 0 (j - a) (omega (arith, from, below, long))

  pub get_or-after : a + n ≤ j → get_or pasted j 0 ≡ get_or xs j 0
  get_or-after from = search (rules, get_or-append_right, long_front, get_or-drop)

pub length-pasted : (xs ys : List ℕ) (a n : ℕ) → a + n ≤ length xs → length ys ≡ n → length (put_mid a n xs ys) ≡ length xs
length-pasted xs ys a n within long =
    omega (arith, length-append (take a xs) (ys ++ drop n (drop a xs)), length-append ys (drop n (drop a xs)), length-take-le a xs (omega (arith, within)), length-drop n (drop a xs), length-drop a xs)

-- the words with an object written from the first word of a slot on
pub set_object-run : (items : List ℕ) (class : Class) (slot first : ℕ) (object : List ℕ) → first ≡ width_of class * slot → length object ≡ width_of class
    → first + length object ≤ length items → padded (put_mid first (length object) items object) ≡ set_object (padded items) class slot object
set_object-run items class slot first object is long within =
    set_object-padded items (put_mid first (length object) items object) class slot object (λ j there. by_place j (cases_eq (j / width_of class) slot))
  where
    by_place : (j : ℕ) → (j / width_of class ≡ slot) ⊎ (j / width_of class ≡ slot → ⊥)
        → get_or (put_mid first (length object) items object) j 0
        ≡ (if j / width_of class == slot then get_or object (j % width_of class) 0 else get_or items j 0)
    by_place j (inl here) =
        let there = in_slot class slot j here in
        let place : j - first ≡ j % width_of class = ap (λ n. j - n) is ∙ sym there.2 in
        rw (eq-eqb _ _ here) (get_or-inside items object first (length object) within refl j (omega (arith, is, there.0)) (omega (arith, is, long, there.1)) ∙ ap (λ k. get_or object k 0) place)
    by_place j (inr apart) = rw (ne_eqb _ _ apart) (elim (out_of_slot class slot j apart) [
      | inl earlier ↦ get_or-before items object first (length object) within refl j (omega (arith, is, earlier))
      | inr later ↦ get_or-after items object first (length object) within refl j (omega (arith, is, long, later))
    ])

-- zeros that are not in memory change nothing
pub set_object-beyond : (items : List ℕ) (class : Class) (slot : ℕ) (object : List ℕ) → IsInObjects class (length items) → length items < width_of class * slot + width_of class
    → is_zeros object ≡ true → padded items ≡ set_object (padded items) class slot object
set_object-beyond items class slot object whole short zeros =
    set_object-padded items items class slot object (λ j there. by_place j (cases_eq (j / width_of class) slot))
  where
    by_place : (j : ℕ) → (j / width_of class ≡ slot) ⊎ (j / width_of class ≡ slot → ⊥)
        → get_or items j 0 ≡ (if j / width_of class == slot then get_or object (j % width_of class) 0 else get_or items j 0)
    by_place j (inl here) = rw (eq-eqb _ _ here)
        (get_or_past items j 0 (omega (arith, (in_slot class slot j here).0, ends_before class slot (length items) whole short)) ∙ sym (get_or-zeros object (j % width_of class) zeros))
    by_place j (inr apart) = ap (λ b. if b then get_or object (j % width_of class) 0 else get_or items j 0) (sym (ne_eqb _ _ apart))

-- one word
pub object_in-word : (items : List ℕ) (class : Class) (slot first : ℕ) (object : List ℕ) → width_of class ≡ 1 → first ≡ slot → slot < slots_in class
    → IsInObjects class (length items) → length object ≡ 1
    → (first + 1 ≤ length items → object ≡ between first (first + 1) items)
    → (length items < first + 1 → is_zeros object ≡ true)
    → object ≡ object_in (padded items) class slot
object_in-word items class slot first object one is low whole long there beyond =
    object_in-run items class slot first object (omega (arith, is, one_mul)) low whole (long ∙ sym one)
    (λ reaches. there (omega (arith, reaches, one)) ∙ ap (λ n. between first (first + n) items) (sym one))
    (λ short. beyond (omega (arith, short, one)))
  where
    one_mul : width_of class * slot ≡ slot
    one_mul = ap (λ n. n * slot) one ∙ one-mul slot

-- the same of pages, with as many words in memory as before
pub page-word : (items : List ℕ) (class : Class) (slot first : ℕ) (object : List ℕ) (x : ℕ) → width_of class ≡ 1 → first ≡ slot
    → first < length items → x ≡ get_or object 0 0 → page_with (set items first x) ≡ with_object (page_with items) class slot object
page-word items class slot first object x one is low value =
    λ i. record { words = set_object-word items class slot first object x one is low value i; room = length-set items first x i }

pub page-run : (items : List ℕ) (class : Class) (slot first : ℕ) (object : List ℕ) → first ≡ width_of class * slot → length object ≡ width_of class
    → first + length object ≤ length items → page_with (put_mid first (length object) items object) ≡ with_object (page_with items) class slot object
page-run items class slot first object is long within =
    λ i. record {
      words = set_object-run items class slot first object is long within i;
      room = length-pasted items object first (length object) within refl i;
    }

-- zeros that are not in memory
pub page-beyond : (items : List ℕ) (class : Class) (slot : ℕ) (object : List ℕ) → length items < width_of class * slot + width_of class → IsInObjects class (length items)
    → Takes (page_with items) class slot object → page_with items ≡ with_object (page_with items) class slot object
page-beyond items class slot object short whole (inl reaches) = absurd (omega (arith, short, reaches))
page-beyond items class slot object short whole (inr zeros) = λ i. record { words = set_object-beyond items class slot object whole short zeros i; room = length items }
