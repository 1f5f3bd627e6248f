-- Rows of bits, a row a slot.
use Rattle.std.proofs.Common.{ℕ, zero, suc, ◌+◌, ◌-◌, ◌*◌, ◌/◌, ◌%◌, ◌^◌, ◌<◌, ◌≤◌, ◌≡◌, ◌==◌, ◌&&◌, Bool, true, false, not, List, ◌++◌, ◌↔◌, length, length-append, take, drop, subst, get_or, lit<, lit≤, ap, sym, ◌∙◌, refl, inl, inr, arith, eqb-true, eq-eqb}
use Rattle.std.specs.Int.{bit_at}
use Rattle.std.specs.List.{filter, list_all, list_any, range_with_len, slice_get}
use Rattle.std.specs.Ordering.{nat_cmp}
use Rattle.std.specs.FinSet.{contains, contains-empty, empty, empty_of_len, intersection, len, len-empty}
use Rattle.std.proofs.Math.Nat.{mul-le-mul_left, mul-suc}
use Rattle.std.proofs.Math.Seq.{drop-append_seam, take-add, take-length}
use Rattle.std.proofs.lemmas.Bool.{and_from, and_parts, both_ways, cases_Bool, cases_eq, cases_lt, not-true}
use Rattle.std.proofs.lemmas.List.{drop-append-le, get_or_default, get_or_past, length-drop, take-append-le}
use Rattle.std.proofs.lemmas.List.Elements.{All-from_get_or}
use Rattle.std.proofs.lemmas.List.Folds.{Any-from_list_any, list_any_at, list_any_none}
use Rattle.std.proofs.lemmas.Nat.Bits.{bit_at-lt, bit_at-zero, same_from_bits_below}
use Rattle.std.proofs.lemmas.Option.{slice_get-get_or, slice_get_past}
use Rattle.bitmap.specs.Slots.{AreDisjoint, IsBelow, SlotSet, ascending, has_bit, members_below}
use Rattle.bitmap.specs.Operations.{AreDisjoint-at, AreDisjoint-by_slot}
use Rattle.bitmap.specs.Words.{contains-slots_of_words}
use Rattle.lane_kernels.specs.Disjoint.{are_disjoint, fits}
use Rattle.lane_kernels.specs.Planes.{IsUnionOf, column, sets_of}
use Rattle.lane_kernels.specs.Rows.{AreBitRows, AreSlotRows, HaveSlots, IsFullRow, padded, row_at, survives, width_of}
use Rattle.lane_kernels.proofs.Columns.{get_or-sets_of, length-sets_of}
use Rattle.bitmap.specs.declared.bits.TheConstants.{SLOTS}

-- a bit of a column, by the plane that has it
pub column_bit : (p q r s : List ℕ) (j slot k w : ℕ) → slot / 64 ≡ k → w ≡ get_or (column p q r s j) k 0 → (bit_at w (slot % 64) == 1) ≡ has_bit (column p q r s j) slot
column_bit p q r s j slot k w place is = rw (place, is) refl

module _ (W : ℕ) (words row : List ℕ) (n : ℕ) (size : length words ≡ W * n) (long : length row ≡ W) where
  -- earlier rows stay
  pub row_at-earlier : (i : ℕ) → i < n → row_at W (words ++ row) i ≡ row_at W words i
  row_at-earlier i low =
      let ends : W * suc i ≤ W * n = mul-le-mul_left W low in
      let more = mul-suc W i in
      ap (take W) (drop-append-le (W * i) words row (omega arith))
      ∙ take-append-le W (drop (W * i) words) row (omega (arith, length-drop (W * i) words))

  pub row_at-last : row_at W (words ++ row) n ≡ row
  row_at-last =
      ap (λ k. take W (drop k (words ++ row))) (sym size)
      ∙ ap (take W) (drop-append_seam words row)
      ∙ ap (λ k. take k row) (sym long) ∙ take-length row

-- one more row
bit_rows-more : (p q r s : List ℕ) (first n : ℕ) (words row : List ℕ) → AreBitRows p q r s first n words → length row ≡ padded (width_of (length p))
    → ((j : ℕ) → j < length p → has_bit row j ≡ has_bit (column p q r s j) (first + n)) → AreBitRows p q r s first (n + 1) (words ++ row)
bit_rows-more p q r s first n words row have long bits =
    let W : ℕ = padded (width_of (length p)) in
    record {
      size = let more = mul-suc W n in omega (arith, length-append words row, have.size, long, more);
      bits = λ k j below low. elim (cases_eq k n) [
        | inl at ↦
            ap (λ m. has_bit (row_at W (words ++ row) m) j) at
            ∙ ap (λ l. has_bit l j) (row_at-last W words row n have.size long)
            ∙ bits j low ∙ ap (λ m. has_bit (column p q r s j) (first + m)) (sym at)
        | inr other ↦
            let before : k < n = omega arith in
            ap (λ l. has_bit l j) (row_at-earlier W words row n have.size long k before) ∙ have.bits k j before low
      ];
    }

-- the row that was written stands behind those before it
pub bit_rows-next : (p q r s : List ℕ) (first n : ℕ) (before words : List ℕ)
    → AreBitRows p q r s first n (take (padded (width_of (length p)) * n) before)
    → take (padded (width_of (length p)) * n) words ≡ take (padded (width_of (length p)) * n) before
    → length (row_at (padded (width_of (length p))) words n) ≡ padded (width_of (length p))
    → ((j : ℕ) → j < length p → has_bit (row_at (padded (width_of (length p))) words n) j ≡ has_bit (column p q r s j) (first + n))
    → AreBitRows p q r s first (n + 1) (take (padded (width_of (length p)) * (n + 1)) words)
bit_rows-next p q r s first n before words have same wide bits =
    let W : ℕ = padded (width_of (length p)) in
    let more : W * (n + 1) ≡ W * n + W = let step = mul-suc W n in omega (arith, step) in
    let cut : take (W * (n + 1)) words ≡ take (W * n) before ++ row_at W words n = ap (λ k. take k words) more ∙ take-add (W * n) W words ∙ ap (λ l. l ++ row_at W words n) same in
    subst (AreBitRows p q r s first (n + 1)) (sym cut) (bit_rows-more p q r s first n (take (W * n) before) (row_at W words n) have wide bits)

-- all rows are written
pub bit_rows-all : (p q r s : List ℕ) (first n : ℕ) (words : List ℕ)
    → AreBitRows p q r s first n (take (padded (width_of (length p)) * n) words) → length words ≡ padded (width_of (length p)) * n → AreBitRows p q r s first n words
bit_rows-all p q r s first n words have size =
    subst (AreBitRows p q r s first n) (ap (λ k. take k words) (sym size) ∙ take-length words) have

-- the rows of the columns are those of the sets
pub HaveSlots-from_bits : (p q r s : List ℕ) (sets : List SlotSet) (first n : ℕ) (rows : List ℕ) → sets_of p q r s ≡ sets → first + n ≤ SLOTS
    → AreBitRows p q r s first n rows → HaveSlots sets first n rows
HaveSlots-from_bits p q r s sets first n rows view within have =
    let long : length sets ≡ length p = ap length (sym view) ∙ length-sets_of p q r s in
    record {
      size = have.size ∙ ap (λ m. padded (width_of m) * n) (sym long);
      bits = λ k j d below low.
          ap (λ m. has_bit (row_at (padded (width_of m)) rows k) j) long
          ∙ have.bits k j below (omega (arith, long))
          ∙ sym (contains-slots_of_words (column p q r s j) (lit≤ tt) (first + k))
          ∙ ap (λ x. contains x (first + k)) (sym (get_or-sets_of p q r s j d (omega (arith, long))) ∙ ap (λ l. get_or l j d) view);
    }

module _ (test held : ℕ → Bool) where
  -- what all members of a range hold that pass a test
  pub all_at : (start n : ℕ) → list_all held (filter test (range_with_len start n)) ≡ true → (q : ℕ) → start ≤ q → q < start + n → test q ≡ true → held q ≡ true
  all_at start zero all q low high passes = absurd (omega arith)
  all_at start (suc n) all q low high passes = elim (cases_Bool (test start)) [
    | inl in' ↦
        let both = and_parts (held start) (list_all held (filter test (range_with_len (start + 1) n))) (rw in' at all) in
        elim (cases_eq q start) [
          | inl at ↦ ap held at ∙ both.0
          | inr other ↦ all_at (start + 1) n both.1 q (omega arith) (omega arith) passes
        ]
    | inr out ↦ elim (cases_eq q start) [
      | inl at ↦ absurd (both_ways (test start) out (ap test (sym at) ∙ passes))
      | inr other ↦ all_at (start + 1) n (rw out at all) q (omega arith) (omega arith) passes
    ]
  ]

  pub all_from : (start n : ℕ) → ((q : ℕ) → q < start + n → test q ≡ true → held q ≡ true) → list_all held (filter test (range_with_len start n)) ≡ true
  all_from start zero each = refl
  all_from start (suc n) each = elim (cases_Bool (test start)) [
    | inl in' ↦ rw in' (and_from (held start) (list_all held (filter test (range_with_len (start + 1) n))) (each start (omega arith) in') (all_from (start + 1) n (λ q low. each q (omega arith))))
    | inr out ↦ rw out (all_from (start + 1) n (λ q low. each q (omega arith)))
  ]

-- the test tells whether the sets are disjoint
are_disjoint-is : (a b : SlotSet) (r : Bool) → (r ≡ true → AreDisjoint a b) → (AreDisjoint a b → r ≡ true) → r ≡ are_disjoint a b
are_disjoint-is a b true to from = sym (eq-eqb _ 0 (ap len (to refl) ∙ len-empty nat_cmp))
are_disjoint-is a b false to from = elim (cases_Bool (are_disjoint a b)) [
  | inl e ↦ absurd (both_ways false refl (from (empty_of_len (intersection a b) (eqb-true _ 0 e))))
  | inr e ↦ sym e
]

-- the same of a test that is known to tell
pub test-is_disjoint : (r : Bool) (a b : SlotSet) → (r ≡ true) ↔ AreDisjoint a b → r ≡ are_disjoint a b
test-is_disjoint r a b tells = are_disjoint-is a b r tells.0 tells.1

AreDisjoint-from_test : (a b : SlotSet) → are_disjoint a b ≡ true → AreDisjoint a b
AreDisjoint-from_test a b e = empty_of_len (intersection a b) (eqb-true _ 0 e)

turned : (a b : SlotSet) → AreDisjoint a b → AreDisjoint b a
turned a b apart = AreDisjoint-by_slot b a (λ q in_b in_a. AreDisjoint-at a b apart q in_a in_b)

-- in either order
pub are_disjoint-comm : (a b : SlotSet) → are_disjoint a b ≡ are_disjoint b a
are_disjoint-comm a b = are_disjoint-is b a (are_disjoint a b)
    (λ e. turned a b (AreDisjoint-from_test a b e))
    (λ apart. sym (are_disjoint-is a b true (λ e. turned b a apart) (λ e. refl)))

abbrev is_some_bit : ℕ → Bool
is_some_bit word = not (word == 0)

-- a word with a bit is not zero
some_word : (row : List ℕ) (j : ℕ) → has_bit row j ≡ true → list_any is_some_bit row ≡ true
some_word row j bit = elim (cases_lt (j / 64) (length row)) [
  | inl low ↦ list_any_at is_some_bit row (j / 64) 0 low (elim (cases_Bool (get_or row (j / 64) 0 == 0)) [
    | inl zeros ↦ absurd (both_ways (has_bit row j) (rw (eqb-true _ 0 zeros, bit_at-zero (j % 64)) refl) bit)
    | inr more ↦ rw more refl
  ])
  | inr past ↦ absurd (both_ways (has_bit row j) (rw (get_or_past row (j / 64) 0 past, bit_at-zero (j % 64)) refl) bit)
]

zero_bit : (b : ℕ) → b < 2 → (b == 1) ≡ false → b ≡ 0
zero_bit zero low e = refl
zero_bit (suc zero) low e = absurd (both_ways true e refl)
zero_bit (suc (suc b)) low e = absurd (omega arith)

bit_in : (row : List ℕ) (k i : ℕ) → i < 64 → has_bit row (64 * k + i) ≡ false → (bit_at (get_or row k 0) i == 1) ≡ false
bit_in row k i small off =
    let word : (64 * k + i) / 64 ≡ k = omega arith in
    let place : (64 * k + i) % 64 ≡ i = omega arith in
    rw (word, place) at off

no_word : (row : List ℕ) → ((k : ℕ) → get_or row k 0 < 2 ^ 64) → ((j : ℕ) → has_bit row j ≡ false) → (k : ℕ) → get_or row k 0 ≡ 0
no_word row fit none k = same_from_bits_below 64 (get_or row k 0) 0 (fit k) (lit< tt) (λ i small.
    zero_bit (bit_at (get_or row k 0) i) (bit_at-lt (get_or row k 0) i) (bit_in row k i small (none (64 * k + i))) ∙ sym (bit_at-zero i))

-- words with no bit are zero
no_words : (row : List ℕ) → ((k : ℕ) → get_or row k 0 < 2 ^ 64) → ((j : ℕ) → has_bit row j ≡ false) → list_any is_some_bit row ≡ false
no_words words fit none = list_any_none is_some_bit words (All-from_get_or (λ word. is_some_bit word ≡ false) words 0 (λ k low. ap is_some_bit (no_word words fit none k)))

lacks_all : (set : SlotSet) → set ≡ empty {R = nat_cmp} → (q : ℕ) → contains set q ≡ true → ⊥
lacks_all set none q inside = both_ways (contains set q) (ap (λ s. contains s q) none ∙ contains-empty nat_cmp q) inside

module _ (set : SlotSet) (sets : List SlotSet) (row : List ℕ) where
  -- a bit for each set, which tells of it, is what the sets say
  pub fits-from_columns : ((j : ℕ) → j < length sets → has_bit row j ≡ are_disjoint set (get_or sets j set)) → ((j : ℕ) → length sets ≤ j → has_bit row j ≡ false)
      → (j : ℕ) → has_bit row j ≡ fits set (slice_get sets j)
  fits-from_columns columns rest j = elim (cases_lt j (length sets)) [
    | inl low ↦ columns j low ∙ ap (fits set) (sym (slice_get-get_or sets j set low))
    | inr past ↦ rest j past ∙ ap (fits set) (sym (slice_get_past sets j past))
  ]

  module _ (is : (j : ℕ) → has_bit row j ≡ fits set (slice_get sets j)) where
    fits_at : (j : ℕ) → j < length sets → has_bit row j ≡ are_disjoint set (get_or sets j set)
    fits_at j low = is j ∙ ap (fits set) (slice_get-get_or sets j set low)

    fits_past : (j : ℕ) → length sets ≤ j → has_bit row j ≡ false
    fits_past j past = is j ∙ ap (fits set) (slice_get_past sets j past)

    -- the row of the set with no slot is full
    pub IsFullRow-from_fits : set ≡ empty {R = nat_cmp} → length row ≡ width_of (length sets) → IsFullRow sets row
    IsFullRow-from_fits none wide = record {
      width = wide;
      bits = λ j low. fits_at j low ∙ sym (are_disjoint-is set (get_or sets j set) true (λ e. AreDisjoint-by_slot set (get_or sets j set) (λ q in_a in_b. lacks_all set none q in_a)) (λ e. refl));
      rest = fits_past;
    }

    fits_none : list_any (λ other. are_disjoint other set) sets ≡ false → (j : ℕ) → has_bit row j ≡ false
    fits_none none j = elim (cases_lt j (length sets)) [
      | inl low ↦ elim (cases_Bool (has_bit row j)) [
        | inl bit ↦ absurd (both_ways (list_any (λ other. are_disjoint other set) sets) none
            (list_any_at (λ other. are_disjoint other set) sets j set low (are_disjoint-comm (get_or sets j set) set ∙ sym (fits_at j low) ∙ bit)))
        | inr e ↦ e
      ]
      | inr past ↦ fits_past j past
    ]

    -- the row has a bit where some set is disjoint from the given one
    pub some_fits : ((k : ℕ) → get_or row k 0 < 2 ^ 64) → list_any is_some_bit row ≡ list_any (λ other. are_disjoint other set) sets
    some_fits fit = elim (cases_Bool (list_any (λ other. are_disjoint other set) sets)) [
      | inl some ↦
          let found = Any-from_list_any (λ other. are_disjoint other set) sets some in
          let here : get_or sets found.0 set ≡ found.1 = get_or_default sets found.0 set found.1 found.2 ∙ found.3 in
          let bit : has_bit row found.0 ≡ true = fits_at found.0 found.2 ∙ are_disjoint-comm set (get_or sets found.0 set) ∙ ap (λ other. are_disjoint other set) here ∙ found.4 in
          some_word row found.0 bit ∙ sym some
      | inr none ↦ no_words row fit (fits_none none) ∙ sym none
    ]

apart_from_each : (a all : SlotSet) (sets : List SlotSet) → IsUnionOf all sets → AreDisjoint a all → (j : ℕ) (d : SlotSet) → j < length sets → AreDisjoint a (get_or sets j d)
apart_from_each a all sets is apart j d low = AreDisjoint-by_slot a (get_or sets j d) (λ q in_a in_b.
    AreDisjoint-at a all apart q in_a (is q ∙ list_any_at (λ s. contains s q) sets j d low in_b))

-- the full row is that of a set that shares no slot with any
pub full_fits : (set all : SlotSet) (sets : List SlotSet) (row : List ℕ) → IsUnionOf all sets → AreDisjoint set all → IsFullRow sets row → (j : ℕ) → has_bit row j ≡ fits set (slice_get sets j)
full_fits set all sets row is apart full =
    fits-from_columns set sets row (λ j low. full.bits j low ∙ are_disjoint-is set (get_or sets j set) true (λ e. apart_from_each set all sets is apart j set low) (λ e. refl)) full.rest

pub not_false : (b : Bool) → (b ≡ true → ⊥) → not b ≡ true
not_false true h = absurd (h refl)
not_false false h = refl

module _ (set other : SlotSet) (rows : List ℕ) (width j : ℕ) (below : IsBelow set SLOTS) (read : (q : ℕ) → q < SLOTS
    → has_bit (row_at width rows q) j ≡ contains other q) where
  -- a bit that is in no row of the set's slots tells of a disjoint set
  survives-tells : survives width rows j (ascending set) ≡ are_disjoint set other
  unfolding members_below
  survives-tells =
      let held : ℕ → Bool = λ q. not (has_bit (row_at width rows q) j) in
      are_disjoint-is set other (list_all held (filter (contains set) (range_with_len 0 SLOTS)))
      (λ all. AreDisjoint-by_slot set other (λ q in_a in_b.
      both_ways (has_bit (row_at width rows q) j) (not-true _ (all_at (contains set) held 0 SLOTS all q (omega arith) (below q in_a) in_a))
      (read q (below q in_a) ∙ in_b)))
      (λ apart. all_from (contains set) held 0 SLOTS (λ q small in_a. not_false _ (λ bit. AreDisjoint-at set other apart q in_a (sym (read q small) ∙ bit))))

-- what is left of the full row without the rows of the set's slots
pub left_fits : (set : SlotSet) (sets : List SlotSet) (rows full row : List ℕ) (width : ℕ) → IsBelow set SLOTS → AreSlotRows sets rows → IsFullRow sets full
    → width ≡ padded (width_of (length sets))
    → ((j : ℕ) → has_bit row j ≡ (has_bit full j && survives width rows j (ascending set))) → (j : ℕ) → has_bit row j ≡ fits set (slice_get sets j)
left_fits set sets rows full row width below are is_full wide bits =
    fits-from_columns set sets row
    (λ j low.
    bits j ∙ ap (λ b. b && survives width rows j (ascending set)) (is_full.bits j low)
    ∙ survives-tells set (get_or sets j set) rows width j below (λ q small. ap (λ w. has_bit (row_at w rows q) j) wide ∙ are.bits q j set small low ∙ ap (λ k. contains (get_or sets j set) k) (omega arith)))
    (λ j past. bits j ∙ ap (λ b. b && survives width rows j (ascending set)) (is_full.rest j past))
