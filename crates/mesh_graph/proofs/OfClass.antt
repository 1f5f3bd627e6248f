-- Rows of bits that keep to one class.
use Rattle.std.proofs.Common.{ℕ, suc, ◌+◌, ◌-◌, ◌/◌, ◌%◌, ◌^◌, ◌*◌, ◌<◌, ◌≤◌, ◌≡◌, ◌==◌, ◌&&◌, ◌||◌, Bool, true, false, List, length, length-drop, length-set, length-take, map, take, drop, replicate, refl, sym, ◌∙◌, ap, arith, get_or, get_or-drop, get_or-set_other, get_or-set_same, get_or-take, ext_get_or, inl, inr, Option, Some, nat_lt, lt-ltb, le-ltb, eq-eqb, eqb-true, set, bit_and, bit_or, min, rules}
use Rattle.std.specs.Bool.{OnTrue}
use Rattle.std.specs.List.{list_all, slice_get}
use Rattle.std.specs.Prelude.{MatchOption}
use Rattle.std.proofs.Math.Bool.{and-false}
use Rattle.std.proofs.Math.Nat.{mul-le-mul_left, mul-suc}
use Rattle.std.proofs.lemmas.Bool.{both_ways, cases_Bool, cases_eq, cases_lt, ne_eqb}
use Rattle.std.proofs.lemmas.List.{drop-replicate, get_or_past, get_or-replicate, length-replicate}
use Rattle.std.proofs.lemmas.List.Folds.{list_all_at}
use Rattle.std.proofs.lemmas.Nat.Bits.{bit_at-lt, bit_at-zero, bit_at_and}
use Rattle.std.proofs.lemmas.Option.{get_or_from_slice_get, slice_get-get_or, slice_get-map, slice_get_past, slice_get_within}
use Rattle.bitmap.specs.Slots.{SlotSet, has_bit}
use Rattle.lane_kernels.specs.Disjoint.{fits}
use Rattle.lane_kernels.specs.Rows.{row_at}
use Rattle.span.specs.Classes.{number_of, width_of}
use Rattle.span.specs.declared.class.Class.{Class}
use Rattle.span.specs.declared.entry.Entry.{Entry}
use Rattle.span.proofs.Widths.{number_of-width}
use Rattle.mesh_graph.specs.Groups.{has_partner}
use Rattle.mesh_graph.specs.Masked.{AreMasks, AreOfOneClass, is_kept, is_of}
use Rattle.mesh_graph.specs.declared.by_class.Masks.{Masks}
use Rattle.mesh_graph.proofs.Bits.{has_bit-set}

both_bits : (x y : ℕ) → x < 2 → y < 2 → (min x y == 1) ≡ ((y == 1) && (x == 1))
both_bits x y p q = elim (cases_eq x 1) [
  | inl one ↦ elim (cases_eq y 1) [
    | inl same ↦ rw (one, same) refl
    | inr other ↦ let none : y ≡ 0 = omega arith in rw (one, none) refl
  ]
  | inr other ↦
      let none : x ≡ 0 = omega arith in
      let least : min 0 y ≡ 0 = omega arith in
      rw (none, least) (sym (and-false (y == 1)))
]

-- the bits that both words have
pub has_bit-met : (old mask new : List ℕ) → ((k : ℕ) → k < length old → get_or new k 0 ≡ bit_and (get_or old k 0) (get_or mask k 0)) → length mask ≡ length old
    → ((k : ℕ) → length old ≤ k → get_or new k 0 ≡ get_or old k 0) → (j : ℕ) → has_bit new j ≡ (has_bit mask j && has_bit old j)
has_bit-met old mask new each wide past j = elim (cases_lt (j / 64) (length old)) [
  | inl low ↦ rw (each (j / 64) low, bit_at_and) (both_bits _ _ (bit_at-lt _ (j % 64)) (bit_at-lt _ (j % 64)))
  | inr high ↦ rw (past (j / 64) high, get_or_past old (j / 64) 0 high, get_or_past mask (j / 64) 0 (omega arith), bit_at-zero (j % 64)) refl
]

-- ---- rows that stand one after another, of which one word is written

get_or-row : (W m q : ℕ) (words : List ℕ) → q < W → get_or (row_at W words m) q 0 ≡ get_or words (W * m + q) 0
get_or-row W m q words low = get_or-take W (drop (W * m) words) q 0 low ∙ get_or-drop (W * m) words q 0

length-row : (W m : ℕ) (words : List ℕ) → length (row_at W words m) ≡ min W (length words - W * m)
length-row W m words = length-take W (drop (W * m) words) ∙ ap (min W) (length-drop (W * m) words)

module _ (W i k w : ℕ) (words : List ℕ) (low : k < W) (within : W * i + W ≤ length words) where
  abbrev after : List ℕ
  after = set words (W * i + k) w

  same_lengths : (m : ℕ) → length (row_at W after m) ≡ length (row_at W words m)
  same_lengths m = length-row W m after ∙ ap (λ n. min W (n - W * m)) (length-set words (W * i + k) w) ∙ sym (length-row W m words)

  -- it is a word of its row
  row_at-set : row_at W after i ≡ set (row_at W words i) k w
  row_at-set = ext_get_or 0 _ _ (same_lengths i ∙ sym (length-set (row_at W words i) k w)) (λ q here.
      let short : q < W = omega (arith, here, length-row W i after) in
      get_or-row W i q after short ∙ elim (cases_eq q k) [
        | inl same ↦
            let inside : k < length (row_at W words i) = omega (arith, low, within, length-row W i words) in
            ap (λ n. get_or after (W * i + n) 0) same ∙ get_or-set_same words (W * i + k) w 0 (omega (arith, low, within))
            ∙ sym (ap (λ n. get_or (set (row_at W words i) k w) n 0) same ∙ get_or-set_same (row_at W words i) k w 0 inside)
        | inr other ↦
            get_or-set_other words (W * i + k) (W * i + q) w 0 (λ e. other (omega (arith, e)))
            ∙ sym (get_or-set_other (row_at W words i) k q w 0 other ∙ get_or-row W i q words short)
      ])

  apart : (m q : ℕ) → (m ≡ i → ⊥) → q < W → W * m + q ≡ W * i + k → ⊥
  apart m q other short same = elim (cases_lt m i) [
    | inl less ↦
        let ends : W * suc m ≤ W * i = mul-le-mul_left W less in
        let more = mul-suc W m in
        absurd (omega (arith, ends, more, same, short))
    | inr not_less ↦
        let ends : W * suc i ≤ W * m = mul-le-mul_left W (omega (arith, not_less, other)) in
        let more = mul-suc W i in
        absurd (omega (arith, ends, more, same, low))
  ]

  -- all other rows stay
  row_at-set_other : (m : ℕ) → (m ≡ i → ⊥) → row_at W after m ≡ row_at W words m
  row_at-set_other m other = ext_get_or 0 _ _ (same_lengths m) (λ q here.
      let short : q < W = omega (arith, here, length-row W m after) in
      get_or-row W m q after short
      ∙ get_or-set_other words (W * i + k) (W * m + q) w 0 (apart m q other short)
      ∙ sym (get_or-row W m q words short))

-- a bit of a row is set
pub row_bit-set : (W i j : ℕ) (words : List ℕ) → j / 64 < W → W * i + W ≤ length words → (m q : ℕ)
    → has_bit (row_at W (set words (W * i + j / 64) (bit_or (get_or words (W * i + j / 64) 0) (1 * 2 ^ (j % 64) % 2 ^ 64))) m) q
    ≡ ((m == i && q == j) || has_bit (row_at W words m) q)
row_bit-set W i j words low within m q =
    let w : ℕ = bit_or (get_or words (W * i + j / 64) 0) (1 * 2 ^ (j % 64) % 2 ^ 64) in
    elim (cases_eq m i) [
      | inl same ↦
          let row : List ℕ = row_at W words i in
          let inside : j / 64 < length row = omega (arith, low, within, length-row W i words) in
          let read : w ≡ bit_or (get_or row (j / 64) 0) (1 * 2 ^ (j % 64) % 2 ^ 64) = ap (λ n. bit_or n (1 * 2 ^ (j % 64) % 2 ^ 64)) (sym (get_or-row W i (j / 64) words low)) in
          rw (same, eq-eqb i i refl) (
          ap (λ l. has_bit l q) (row_at-set W i (j / 64) w words low within)
          ∙ ap (λ n. has_bit (set row (j / 64) n) q) read
          ∙ has_bit-set row j inside q)
      | inr other ↦ rw (ne_eqb m i other) (ap (λ l. has_bit l q) (row_at-set_other W i (j / 64) w words low within m other))
    ]

-- ---- the masks of the first n groups

-- the bits of the first n groups
abbrev pub has_first : Class → List Entry → ℕ → ℕ → Bool
has_first class owned n j = nat_lt j n && is_of class (slice_get owned j)

-- the masks have these bits
abbrev pub HaveFirst : ℕ → List ℕ → List Entry → ℕ → Type 0
HaveFirst width words owned n = (class : Class) (j : ℕ) → has_bit (row_at width words (number_of class)) j ≡ has_first class owned n j

same_number : (a b : Class) → (number_of a == number_of b) ≡ (width_of a == width_of b)
same_number a b = search (rules, cases_eq, eq-eqb, number_of-width, ne_eqb)

-- no group is gone over
pub HaveFirst-none : (width n : ℕ) (owned : List Entry) → HaveFirst width (replicate n 0) owned 0
HaveFirst-none width n owned class j = search (rules, drop-replicate, bit_at-zero, le-ltb, replicate, cases_lt, get_or-take, get_or-replicate, get_or_past, length-replicate, length-take)

-- one more group is gone over, which sets its bit in the mask of its class
pub HaveFirst-more : (width : ℕ) (words after : List ℕ) (owned : List Entry) (n : ℕ) (y : Entry) → n < length owned → y ≡ get_or owned n y
    → HaveFirst width words owned n
    → ((m q : ℕ) → has_bit (row_at width after m) q ≡ ((m == number_of y.class && q == n) || has_bit (row_at width words m) q))
    → HaveFirst width after owned (n + 1)
HaveFirst-more width words after owned n y low read before bits class j =
    bits (number_of class) j ∙ ap (λ b. (number_of class == number_of y.class && j == n) || b) (before class j) ∙ elim (cases_eq j n) [
      | inl same ↦ rw (same, here, same_number class y.class, eq-eqb n n refl, le-ltb n n (omega arith), lt-ltb n (n + 1) (omega arith)) (tidy (width_of class == width_of y.class))
      | inr other ↦ rw (ne_eqb j n other, and-false (number_of class == number_of y.class)) (later other)
    ]
  where
    here : is_of class (slice_get owned n) ≡ (width_of class == width_of y.class)
    here = ap (is_of class) (slice_get-get_or owned n y low) ∙ ap (λ (z : Entry). width_of class == width_of z.class) (sym read)

    tidy : (b : Bool) → ((b && true) || (false && b)) ≡ (true && b)
    tidy true = refl
    tidy false = refl

    later : (j ≡ n → ⊥) → has_first class owned n j ≡ has_first class owned (n + 1) j
    later other = elim (cases_lt j n) [
      | inl less ↦ rw (lt-ltb j n less, lt-ltb j (n + 1) (omega arith)) refl
      | inr more ↦ rw (le-ltb j n more, le-ltb j (n + 1) (omega arith)) refl
    ]

-- all groups are gone over
pub HaveFirst-all : (width : ℕ) (words : List ℕ) (owned : List Entry) (n : ℕ) → length owned ≤ n → HaveFirst width words owned n → (class : Class) (j : ℕ)
    → has_bit (row_at width words (number_of class)) j ≡ is_of class (slice_get owned j)
HaveFirst-all width words owned n past before class j = search (rules, cases_lt, lt-ltb, le-ltb, slice_get_past)

-- a group among those that are all of the class
all-at : (class : Class) (xs : List Entry) (i : ℕ) (x : Entry) → list_all (λ x. width_of x.class == width_of class) xs ≡ true → slice_get xs i ≡ Some x → width_of x.class ≡ width_of class
all-at class xs i x all at = elim (cases_Bool (width_of x.class == width_of class)) [
  | inl same ↦ eqb-true (width_of x.class) (width_of class) same
  | inr other ↦
      let read : get_or xs i x ≡ x = get_or_from_slice_get xs i x x at in
      absurd (both_ways (list_all (λ x. width_of x.class == width_of class) xs)
      (list_all_at (λ (x : Entry). width_of x.class == width_of class) xs i x (slice_get_within xs i x at) (ap (λ (z : Entry). width_of z.class == width_of class) read ∙ other)) all)
]

-- the groups of both sides are all of the class
pub AreOfOneClass-all : (class : Class) (abandoned owned : List Entry) → list_all (λ x. width_of x.class == width_of class) owned ≡ true
    → list_all (λ x. width_of x.class == width_of class) abandoned ≡ true → AreOfOneClass abandoned owned
AreOfOneClass-all class abandoned owned all_o all_a i j x y at_x at_y = all-at class abandoned i x all_a at_x ∙ sym (all-at class owned j y all_o at_y)

-- the bits of a group's row that are kept: those of the groups with which it is compatible
pub has_partner-kept : (abandoned owned : List Entry) (sets : List SlotSet) (masks : Option Masks) (n : ℕ) (x : Entry)
    → MatchOption masks (AreOfOneClass abandoned owned) (AreMasks owned) → sets ≡ map (λ y. y.occupied) owned
    → n < length abandoned → x ≡ get_or abandoned n x → (j : ℕ) → (is_kept masks x.class j && fits x.occupied (slice_get sets j)) ≡ has_partner x (slice_get owned j)
has_partner-kept abandoned owned sets masks n x told are low read j = search (rules, slice_get-map, slice_get-get_or, and-false, eq-eqb)

-- the same, of the test
pub OnTrue-one_class : (class : Class) (abandoned owned : List Entry) (all : Bool) → list_all (λ x. width_of x.class == width_of class) owned ≡ true
    → all ≡ list_all (λ x. width_of x.class == width_of class) abandoned → OnTrue all (AreOfOneClass abandoned owned)
OnTrue-one_class class abandoned owned true all_o is = AreOfOneClass-all class abandoned owned all_o (sym is)
OnTrue-one_class class abandoned owned false all_o is = tt
