-- Objects that are copied to the slots of a page, one after another.
use Rattle.std.proofs.Common.{zero, suc, ◌≡◌, ℕ, ◌+◌, ◌*◌, ◌/◌, ◌%◌, ◌<◌, ◌≤◌, ◌⊎◌, ◌==◌, Bool, true, false, cond, if◌then◌else◌, eqb, eq-eqb, ◌&&◌, ◌||◌, List, [], ◌∷◌, get_or, ◌∙◌, ap, sym, refl, inl, inr, arith}
use Rattle.std.specs.Prelude.{filter}
use Rattle.std.specs.List.{range_with_len}
use Rattle.std.specs.FinSet.{contains}
use Rattle.std.proofs.Math.Nat.{div-add-mod, div-le_self, mod-lt}
use Rattle.std.proofs.lemmas.Bool.{cases_eq, ne_eqb}
use Rattle.std.proofs.lemmas.List.FromFn.{fill_by_all, get_or-map-range_with_len}
use Rattle.std.specs.Cmp.{second_so}
use Rattle.bitmap.specs.Slots.{IsBelow, SlotSet, ascending, members_below}
use Rattle.span.specs.Classes.{slots_in, width_of}
use Rattle.span.specs.declared.class.Class.{Class}
use Rattle.span.proofs.Widths.{width_of-least}
use Rattle.page.specs.Words.{PageState, Words, copied, object_in, same_words, set_object}
use Rattle.page.proofs.Words.{get_or-object_in, get_or-set_object, length-object_in, object_in-from, on_page, slot_of_word}
use Rattle.bitmap.specs.declared.bits.TheConstants.{SLOTS}

-- the words after the objects of the others at the slots were written, one after another
abbrev pub written : Words → Class → Words → List ℕ → Words
written words class others [] = words
written words class others (slot ∷ slots) = written (set_object words class slot (object_in others class slot)) class others slots

abbrev among : ℕ → List ℕ → Bool
among q [] = false
among q (k ∷ ks) = eqb q k || among q ks

place-lt : (class : Class) (j : ℕ) → j % width_of class < width_of class
place-lt class j = mod-lt j (width_of-least class)

whole_of : (class : Class) (j : ℕ) → width_of class * (j / width_of class) + j % width_of class ≡ j
whole_of class j = div-add-mod j (width_of class)

slot-lt : (class : Class) (j : ℕ) → j < SLOTS → j / width_of class < SLOTS
slot-lt class j low = omega (arith, low, div-le_self j (width_of class))

pub same_both : (b : Bool) (x : ℕ) → cond b x x ≡ x
same_both true x = refl
same_both false x = refl

-- the word of the others, where its slot was written
get_or-written : (words others : Words) (class : Class) (slots : List ℕ) (j : ℕ) → j < SLOTS
    → get_or (written words class others slots).items j 0 ≡ cond (among (j / width_of class) slots) (get_or others.items j 0) (get_or words.items j 0)
get_or-written words others class [] j low = refl
get_or-written words others class (slot ∷ slots) j low =
    get_or-written (set_object words class slot (object_in others class slot)) others class slots j low
    ∙ ap (cond (among (j / width_of class) slots) (get_or others.items j 0)) (get_or-set_object words class slot (object_in others class slot) j low)
    ∙ by_slot (cases_eq (j / width_of class) slot)
  where
    by_slot : (j / width_of class ≡ slot) ⊎ (j / width_of class ≡ slot → ⊥)
        → cond (among (j / width_of class) slots) (get_or others.items j 0) (if j / width_of class == slot then get_or (object_in others class slot) (j % width_of class) 0 else get_or words.items j 0)
        ≡ cond (eqb (j / width_of class) slot || among (j / width_of class) slots) (get_or others.items j 0) (get_or words.items j 0)
    by_slot (inl same) =
        let read : get_or (object_in others class slot) (j % width_of class) 0 ≡ get_or others.items j 0 =
        get_or-object_in others class slot (j % width_of class) (place-lt class j)
        ∙ ap (λ n. get_or others.items n 0) (ap (λ q. width_of class * q + j % width_of class) (sym same) ∙ whole_of class j) in
        rw (eq-eqb (j / width_of class) slot same, read) (same_both (among (j / width_of class) slots) (get_or others.items j 0))
    by_slot (inr apart) = rw (ne_eqb (j / width_of class) slot apart) refl

among-filter : (p : ℕ → Bool) (q : ℕ) (slots : List ℕ) → among q (filter p slots) ≡ (among q slots && p q)
among-filter p q [] = refl
among-filter p q (slot ∷ slots) = by_test (p slot) refl (cases_eq q slot) (among-filter p q slots)
  where
    by_test : (b : Bool) → p slot ≡ b → (q ≡ slot) ⊎ (q ≡ slot → ⊥) → among q (filter p slots) ≡ (among q slots && p q)
        → among q (cond b (slot ∷ filter p slots) (filter p slots)) ≡ ((eqb q slot || among q slots) && p q)
    by_test true passes (inl same) rest = rw (eq-eqb q slot same) (sym (ap p same ∙ passes))
    by_test true passes (inr apart) rest = rw (ne_eqb q slot apart) rest
    by_test false fails (inl same) rest = rw (eq-eqb q slot same) (rest ∙ ap (λ b. among q slots && b) (ap p same ∙ fails) ∙ never (among q slots) ∙ sym (ap p same ∙ fails))
      where
        never : (b : Bool) → (b && false) ≡ false
        never true = refl
        never false = refl
    by_test false fails (inr apart) rest = rw (ne_eqb q slot apart) rest

among-range : (a n q : ℕ) → a ≤ q → q < a + n → among q (range_with_len a n) ≡ true
among-range a zero q from below = absurd (omega arith)
among-range a (suc n) q from below = by_test (cases_eq q a) (λ above. among-range (a + 1) n q above (omega arith))
  where
    by_test : (q ≡ a) ⊎ (q ≡ a → ⊥) → (a + 1 ≤ q → among q (range_with_len (a + 1) n) ≡ true) → (eqb q a || among q (range_with_len (a + 1) n)) ≡ true
    by_test (inl same) rest = rw (eq-eqb q a same) refl
    by_test (inr apart) rest = rw (ne_eqb q a apart) (rest (omega arith))

copied-written : (words others : Words) (class : Class) (slots : SlotSet) → written words class others (ascending slots) ≡ copied words class slots others
unfolding members_below copied
copied-written words others class slots = same_words _ _
    (fill_by_all (λ j. cond (contains slots (j / width_of class)) (get_or others.items j 0) (get_or words.items j 0))
    (written words class others (ascending slots)).items SLOTS 0
    (written words class others (ascending slots)).whole
    (λ j low.
    let q = j / width_of class in
    get_or-written words others class (ascending slots) j low
    ∙ ap (λ b. cond b (get_or others.items j 0) (get_or words.items j 0))
    (among-filter (contains slots) q (range_with_len 0 SLOTS) ∙ ap (λ b. b && contains slots q) (among-range 0 SLOTS q (omega arith) (slot-lt class j low)))))

-- the objects after a copy
module _ (words others : Words) (class : Class) (slots : SlotSet) where
  get_or-copied : (j : ℕ) → j < SLOTS
      → get_or (copied words class slots others).items j 0 ≡ cond (contains slots (j / width_of class)) (get_or others.items j 0) (get_or words.items j 0)
  unfolding copied
  get_or-copied j low = get_or-map-range_with_len
      (λ j. cond (contains slots (j / width_of class)) (get_or others.items j 0) (get_or words.items j 0)) 0 SLOTS j j 0 low (omega arith)

  pub object_in-copied_there : (q : ℕ) → q < slots_in class → contains slots q ≡ true → object_in (copied words class slots others) class q ≡ object_in others class q
  object_in-copied_there q low inside = object_in-from others class q (object_in (copied words class slots others) class q) (length-object_in (copied words class slots others) class q) (λ k within.
      get_or-object_in (copied words class slots others) class q k within ∙ get_or-copied (width_of class * q + k) (on_page class q k low within) ∙ rw (slot_of_word class q k within, inside) refl)

  pub object_in-copied_kept : (q : ℕ) → q < slots_in class → contains slots q ≡ false → object_in (copied words class slots others) class q ≡ object_in words class q
  object_in-copied_kept q low outside = object_in-from words class q (object_in (copied words class slots others) class q) (length-object_in (copied words class slots others) class q) (λ k within.
      get_or-object_in (copied words class slots others) class q k within ∙ get_or-copied (width_of class * q + k) (on_page class q k low within) ∙ rw (slot_of_word class q k within, outside) refl)

among-ascending : (slots : SlotSet) (q : ℕ) → among q (ascending slots) ≡ true → contains slots q ≡ true
unfolding members_below
among-ascending slots q inside = second_so (among q (range_with_len 0 SLOTS)) (contains slots q)
    (sym (among-filter (contains slots) q (range_with_len 0 SLOTS)) ∙ inside)

or_right : (b c : Bool) → c ≡ true → (b || c) ≡ true
or_right true c so = refl
or_right false c so = so

-- the words at the slots that are left are still to be copied; with them it comes to all
pub record IsCopying (before now : Words) (class : Class) (others : Words) (left all : List ℕ) : Type 0 where
  pub words : written now class others left ≡ written before class others all
  pub on_page : (q : ℕ) → among q left ≡ true → q < slots_in class

pub IsCopying-first : (words : Words) (class : Class) (others : Words) (slots : SlotSet) → IsBelow slots (slots_in class) → IsCopying words words class others (ascending slots) (ascending slots)
IsCopying-first words class others slots below = record { words = refl; on_page = λ q inside. below q (among-ascending slots q inside) }

module _ (before now : Words) (class : Class) (others : Words) where
  pub slot-on_page : (slot : ℕ) (left rest all : List ℕ) → left ≡ slot ∷ rest → IsCopying before now class others left all → slot < slots_in class
  slot-on_page slot left rest all first is = is.on_page slot (ap (among slot) first ∙ ap (λ b. b || among slot rest) (eq-eqb slot slot refl))

  pub IsCopying-next : (slot : ℕ) (left rest all : List ℕ) → left ≡ slot ∷ rest → IsCopying before now class others left all
      → IsCopying before (set_object now class slot (object_in others class slot)) class others rest all
  IsCopying-next slot left rest all first is = record {
    words = ap (written now class others) (sym first) ∙ is.words;
    on_page = λ q inside. is.on_page q (ap (among q) first ∙ or_right (eqb q slot) (among q rest) inside);
  }

  pub IsCopying-all : (slots : SlotSet) (left : List ℕ) → left ≡ [] → IsCopying before now class others left (ascending slots) → now ≡ copied before class slots others
  IsCopying-all slots left none is = ap (written now class others) (sym none) ∙ is.words ∙ copied-written before others class slots

-- the same of pages, the second of which has no more words in memory
pub record IsPageCopying (before now : PageState) (class : Class) (others : PageState) (left all : List ℕ) : Type 0 where
  pub words : IsCopying before.words now.words class others.words left all
  pub room : now.room ≡ before.room
