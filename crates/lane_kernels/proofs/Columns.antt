-- Columns of four words as sets.
use Rattle.std.proofs.Common.{◌≡◌, ℕ, zero, ◌+◌, ◌<◌, ◌≤◌, ◌^◌, ◌==◌, Bool, true, false, List, [], ◌∷◌, ◌++◌, ◌||◌, length, map, get_or, ◌↔◌, ap, sym, ◌∙◌, refl, inl, inr, arith, zero-add, length-append, eqb-true, eq-eqb, subst, if◌then◌else◌, ◌*◌, ◌/◌, ◌%◌, rules}
use Rattle.std.proofs.lemmas.Grind.{same_number_lists}
use Rattle.std.proofs.lemmas.Nat.Bits.{bit_at-zero}
use Rattle.std.proofs.Math.Seq.{get_or-append_seam}
use Rattle.std.proofs.lemmas.List.Folds.{list_any-append}
use Rattle.std.proofs.lemmas.Bool.{cases_eq, cases_lt}
use Rattle.std.proofs.lemmas.List.{ext_get_or, get_or-map, get_or_append_left, get_or_past, length-map}
use Rattle.std.proofs.lemmas.List.FromFn.{length-map-range_with_len, get_or-map-range_with_len}
use Rattle.bitmap.specs.Slots.{AreDisjoint, AreWords, SlotSet, has_bit, slots_of_words}
use Rattle.bitmap.proofs.Disjoint.{AreDisjoint-shared, shared-AreDisjoint}
use Rattle.std.specs.FinSet.{contains, contains-empty, contains-union, union, empty, len}
use Rattle.std.specs.Ordering.{nat_cmp}
use Rattle.std.specs.List.{list_any}
use Rattle.lane_kernels.specs.Planes.{column, is_apart, IsUnionOf, sets_of}

module _ (p q r s : List ℕ) where
  pub length-sets_of : length (sets_of p q r s) ≡ length p
  unfolding sets_of
  length-sets_of = length-map-range_with_len (λ k. slots_of_words (column p q r s k)) 0 (length p)

  pub get_or-sets_of : (j : ℕ) (d : SlotSet) → j < length p → get_or (sets_of p q r s) j d ≡ slots_of_words (column p q r s j)
  unfolding sets_of
  get_or-sets_of j d below = get_or-map-range_with_len (λ k. slots_of_words (column p q r s k)) 0 (length p) j j d below (zero-add j)

  module _ (a b c e : ℕ) (long_q : length q ≡ length p) (long_r : length r ≡ length p) (long_s : length s ≡ length p) where
    earlier : (k : ℕ) → k < length p → column (p ++ a ∷ []) (q ++ b ∷ []) (r ++ c ∷ []) (s ++ e ∷ []) k ≡ column p q r s k
    earlier k below = search (rules, get_or_append_left)

    newest : column (p ++ a ∷ []) (q ++ b ∷ []) (r ++ c ∷ []) (s ++ e ∷ []) (length p) ≡ a ∷ b ∷ c ∷ e ∷ []
    newest = search (rules, get_or-append_seam)

-- one more column is one more set
pub sets_of-push : (p q r s : List ℕ) (a b c e : ℕ) (set : SlotSet) → length q ≡ length p → length r ≡ length p → length s ≡ length p → slots_of_words (a ∷ b ∷ c ∷ e ∷ []) ≡ set
    → sets_of (p ++ a ∷ []) (q ++ b ∷ []) (r ++ c ∷ []) (s ++ e ∷ []) ≡ sets_of p q r s ++ set ∷ []
sets_of-push p q r s a b c e set long_q long_r long_s is =
    let old = length-sets_of p q r s in
    let new = length-sets_of (p ++ a ∷ []) (q ++ b ∷ []) (r ++ c ∷ []) (s ++ e ∷ []) in
    let more = length-append p (a ∷ []) in
    ext_get_or set _ _ (omega (arith, old, new, more, length-append (sets_of p q r s) (set ∷ []))) (λ k h.
    let inside : k < length (p ++ a ∷ []) = omega (arith, new) in
    get_or-sets_of (p ++ a ∷ []) (q ++ b ∷ []) (r ++ c ∷ []) (s ++ e ∷ []) k set inside
    ∙ elim (cases_eq k (length p)) [
      | inl here ↦
          ap (λ i. slots_of_words (column (p ++ a ∷ []) (q ++ b ∷ []) (r ++ c ∷ []) (s ++ e ∷ []) i)) here ∙ ap slots_of_words (newest p q r s a b c e long_q long_r long_s) ∙ is
          ∙ sym (ap (λ i. get_or (sets_of p q r s ++ set ∷ []) i set) (here ∙ sym old) ∙ get_or-append_seam (sets_of p q r s) set [] set)
      | inr other ↦
          let low : k < length p = omega (arith, more) in
          ap slots_of_words (earlier p q r s a b c e long_q long_r long_s k low) ∙ sym (get_or_append_left (sets_of p q r s) (set ∷ []) set k (omega (arith, old)) ∙ get_or-sets_of p q r s k set low)
    ])

module _ (a : List ℕ) (are : AreWords a) (p q r s : List ℕ) (k : ℕ) where
  -- the test of a column tells whether its set is disjoint from the given one
  pub is_apart-is : (is_apart a p q r s k ≡ true) ↔ AreDisjoint (slots_of_words a) (slots_of_words (column p q r s k))
  is_apart-is = (
    λ yes. shared-AreDisjoint a (column p q r s k) are.four refl (eqb-true _ 0 yes),
    λ apart. eq-eqb _ 0 (AreDisjoint-shared a (column p q r s k) are refl apart),
  )

pub sets_of-none : (p q r s : List ℕ) → p ≡ [] → sets_of p q r s ≡ []
unfolding sets_of
sets_of-none p q r s none = rw none refl

four_words : (words : List ℕ) → length words ≡ 4 → get_or words 0 0 ∷ get_or words 1 0 ∷ get_or words 2 0 ∷ get_or words 3 0 ∷ [] ≡ words
four_words words long = search (rules, same_number_lists)

-- each row goes on by a word of the set
pub pushed : (p q r s p' q' r' s' words : List ℕ) (set : SlotSet) (sets : List SlotSet) → length q ≡ length p → length r ≡ length p → length s ≡ length p
    → length words ≡ 4 → slots_of_words words ≡ set → sets_of p q r s ≡ sets
    → p' ≡ p ++ get_or words 0 0 ∷ [] → q' ≡ q ++ get_or words 1 0 ∷ [] → r' ≡ r ++ get_or words 2 0 ∷ [] → s' ≡ s ++ get_or words 3 0 ∷ [] → sets_of p' q' r' s' ≡ sets ++ set ∷ []
pushed p q r s p' q' r' s' words set sets long_q long_r long_s four is view in_p in_q in_r in_s = search (rules, sets_of-push, four_words)

pub bit_tells : (bit : ℕ) (b : Bool) → bit ≡ (if b then 1 else 0) → (bit == 1) ≡ b
bit_tells bit true is = rw is refl
bit_tells bit false is = rw is refl

-- a bit of the row tells whether its set is disjoint from the given one
pub row_tells : (words p q r s : List ℕ) (set : SlotSet) (sets : List SlotSet) (bit j : ℕ) (d : SlotSet) → AreWords words → slots_of_words words ≡ set → sets_of p q r s ≡ sets → j < length p
    → bit ≡ (if is_apart words p q r s j then 1 else 0) → ((bit == 1) ≡ true) ↔ AreDisjoint set (get_or sets j d)
row_tells words p q r s set sets bit j d are is view below tells =
    let here : slots_of_words (column p q r s j) ≡ get_or sets j d = sym (get_or-sets_of p q r s j d below) ∙ ap (λ l. get_or l j d) view in
    let test = bit_tells bit (is_apart words p q r s j) tells in
    let both = is_apart-is words are p q r s j in
    let P : SlotSet → SlotSet → Type 0 = AreDisjoint in (
      λ yes. subst (λ b. P set b) here (subst (λ a. P a (slots_of_words (column p q r s j))) is (both.0 (sym test ∙ yes))),
      λ apart. test ∙ both.1 (subst (λ a. P a (slots_of_words (column p q r s j))) (sym is) (subst (λ b. P set b) (sym here) apart)),
    )

-- past the sets no bit is set
pub row_ends : (row : List ℕ) (n j : ℕ) → n ≤ j → length row ≡ (n + 63) / 64 → ((j : ℕ) → n ≤ j → j < 64 * length row → get_or row (j / 64) 0 / 2 ^ (j % 64) % 2 ≡ 0) → has_bit row j ≡ false
row_ends row n j past long rest = search (rules, cases_lt, get_or_past, bit_at-zero)

-- no set has no slot
pub union_of_none : (sets : List SlotSet) → sets ≡ [] → IsUnionOf (empty {R = nat_cmp}) sets
union_of_none sets none = λ slot. rw none (contains-empty nat_cmp slot)

one_more : (b c : Bool) → (b || (c || false)) ≡ (b || c)
one_more true c = refl
one_more false true = refl
one_more false false = refl

any_more : (test : SlotSet → Bool) (sets : List SlotSet) (set : SlotSet) → list_any test (sets ++ set ∷ []) ≡ (list_any test sets || test set)
any_more test sets set = list_any-append test sets (set ∷ []) ∙ one_more (list_any test sets) (test set)

-- one more set is one more in the union
pub union_of_more : (all set : SlotSet) (sets : List SlotSet) → IsUnionOf all sets → IsUnionOf (union all set) (sets ++ set ∷ [])
union_of_more all set sets is = search (rules, contains-union, any_more)

-- counts that are those of each column are those of each set
pub counts_are : (p q r s : List ℕ) (sets : List SlotSet) (counts : List ℕ) → sets_of p q r s ≡ sets → length counts ≡ length p
    → ((k : ℕ) → k < length p → get_or counts k 0 ≡ len (slots_of_words (column p q r s k))) → counts ≡ map len sets
counts_are p q r s sets counts view long each =
    let all = length-sets_of p q r s in
    rw (← view) (ext_get_or 0 counts (map len (sets_of p q r s)) (long ∙ sym (length-map (sets_of p q r s) len ∙ all)) (λ k below.
    let inside : k < length p = omega (arith, long) in
    each k inside
    ∙ ap len (sym (get_or-sets_of p q r s k (empty {R = nat_cmp}) inside))
    ∙ sym (get_or-map len (sets_of p q r s) k (empty {R = nat_cmp}) 0 (omega (arith, all)))))
