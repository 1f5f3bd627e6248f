-- Sixteen words of the rows of a set's slots, taken together.
use Rattle.std.proofs.Common.{ℕ, ◌+◌, ◌-◌, ◌*◌, ◌/◌, ◌%◌, ◌^◌, ◌<◌, ◌≤◌, ◌≡◌, ◌==◌, ◌&&◌, ◌↔◌, Bool, true, false, not, max, List, length, get_or, bit_and, bit_or, ap, sym, ◌∙◌, refl, inl, inr, arith, w64, eqb-true}
use Rattle.std.specs.Int.{bit_at, bit_not, trailing_zeros}
use Rattle.std.specs.FinSet.{contains}
use Rattle.std.specs.Simd.Lanes.{chunk, zip2}
use Rattle.std.proofs.Math.Nat.{mul-add, mul-le-mul_left}
use Rattle.std.proofs.lemmas.Bool.{both_ways, cases_Bool, cases_eq, cases_lt, not-true}
use Rattle.std.proofs.lemmas.List.{get_or_past}
use Rattle.std.proofs.lemmas.Nat.{and_le_l}
use Rattle.std.proofs.lemmas.Nat.Bits.{bit_at-lt, bit_at-trailing_zeros, bit_at-zero, bit_at_and, bit_at_clear_other, bit_at_clear_same, bit_at_not, bit_at_or}
use Rattle.std.proofs.lemmas.Simd.{get_or-chunk, get_or-zip2, length-chunk, length-zip2}
use Rattle.bitmap.specs.Slots.{SlotSet, ascending, has_bit, members_below}
use Rattle.bitmap.specs.Words.{has_bit-place}
use Rattle.lane_kernels.specs.Rows.{IsClear, IsClearIn, row_at, survives}
use Rattle.lane_kernels.proofs.Rows.{all_at, all_from, not_false}
use Rattle.bitmap.specs.declared.bits.TheConstants.{SLOTS}
use Rattle.bitmap.proofs.WordByWord.{only_bit}

-- a word without its lowest bit
abbrev pub without_lowest : ℕ → ℕ
without_lowest left = bit_and left (bit_not w64 (1 * 2 ^ trailing_zeros w64 left % 2 ^ 64))

module _ (left : ℕ) (some : left ≡ 0 → ⊥) (fits : left < 2 ^ 64) where
  abbrev lowest : ℕ
  lowest = trailing_zeros w64 left

  found : (lowest < 64) × (bit_at left lowest ≡ 1) × ((i : ℕ) → i < lowest → bit_at left i ≡ 0)
  found = bit_at-trailing_zeros w64 left (omega arith) fits

  pub lowest-lt : lowest < 64
  lowest-lt = found.0

  gone : bit_at (without_lowest left) lowest ≡ 0
  gone = bit_at_clear_same w64 left lowest found.0

  kept : (q : ℕ) → q < 64 → (q ≡ lowest → ⊥) → bit_at (without_lowest left) q ≡ bit_at left q
  kept q low other = bit_at_clear_other w64 left lowest found.0 q low other

  pub without_lowest-lt : without_lowest left < left
  without_lowest-lt = elim (cases_eq (without_lowest left) left) [
    | inl same ↦ absurd (let bit : bit_at (without_lowest left) lowest ≡ 1 = ap (λ n. bit_at n lowest) same ∙ found.1 in omega (arith, gone))
    | inr other ↦ let at_most = and_le_l left (bit_not w64 (1 * 2 ^ lowest % 2 ^ 64)) in omega arith
  ]

  module _ (rows : List ℕ) (W k b : ℕ) where
    clear-parted : IsClear left rows W k b → (bit_at (get_or rows (k + W * lowest) 0) b ≡ 0) × IsClear (without_lowest left) rows W k b
    clear-parted clear = (
      clear lowest found.0 found.1,
      λ q low bit. elim (cases_eq q lowest) [
        | inl same ↦ absurd (let none : bit_at (without_lowest left) q ≡ 0 = ap (bit_at (without_lowest left)) same ∙ gone in omega arith)
        | inr other ↦ clear q low (sym (kept q low other) ∙ bit)
      ],
    )

    clear-joined : bit_at (get_or rows (k + W * lowest) 0) b ≡ 0 → IsClear (without_lowest left) rows W k b → IsClear left rows W k b
    clear-joined first rest q low bit = elim (cases_eq q lowest) [
      | inl same ↦ ap (λ n. bit_at (get_or rows (k + W * n) 0) b) same ∙ first
      | inr other ↦ rest q low (kept q low other ∙ bit)
    ]

-- a bit of one lane, after the words of a row were added
added : (block rows : List ℕ) (from i b : ℕ) → length block ≡ 16 → from + 16 ≤ length rows → i < 16
    → bit_at (get_or (zip2 bit_or block (chunk from 16 rows)) i 0) b ≡ max (bit_at (get_or block i 0) b) (bit_at (get_or rows (from + i) 0) b)
added block rows from i b sixteen room low =
    ap (λ n. bit_at n b) (get_or-zip2 bit_or block (chunk from 16 rows) i 0 0 0 (omega arith) (omega (arith, low, length-chunk from 16 rows room))
    ∙ ap (bit_or (get_or block i 0)) (get_or-chunk from 16 rows i 0 low))
    ∙ bit_at_or (get_or block i 0) (get_or rows (from + i) 0) b

-- what is left to add after the row of the lowest bit was added
pub rows-step : (left first W i b : ℕ) (block rows : List ℕ) → (left ≡ 0 → ⊥) → left < 2 ^ 64 → length block ≡ 16 → first + W * trailing_zeros w64 left + 16 ≤ length rows → i < 16
    → ((bit_at (get_or (zip2 bit_or block (chunk (first + W * trailing_zeros w64 left) 16 rows)) i 0) b ≡ 0)
    × IsClear (without_lowest left) rows W (first + i) b) ↔ ((bit_at (get_or block i 0) b ≡ 0) × IsClear left rows W (first + i) b)
rows-step left first W i b block rows some fits sixteen room low =
    let from : ℕ = first + W * trailing_zeros w64 left in
    let bit = added block rows from i b sixteen room low in
    let place : from + i ≡ first + i + W * trailing_zeros w64 left = omega arith in
    let there : bit_at (get_or rows (from + i) 0) b ≡ bit_at (get_or rows (first + i + W * trailing_zeros w64 left) 0) b = ap (λ n. bit_at (get_or rows n 0) b) place in (
      λ now. (omega (arith, now.0, bit), clear-joined left some fits rows W (first + i) b (omega (arith, now.0, bit, there)) now.1),
      λ then_. let parts = clear-parted left some fits rows W (first + i) b then_.1 in (omega (arith, then_.0, bit, there, parts.0), parts.1),
    )

pub both-either : {A B C : Type 0} → A ↔ B → B ↔ C → A ↔ C
both-either f g = (λ a. g.0 (f.0 a), λ c. f.1 (g.1 c))

-- a row's sixteen words are among the rows
pub row-within : (W bit first n : ℕ) → bit < 64 → first + W * 63 + 16 ≤ n → first + W * bit + 16 ≤ n
row-within W bit first n low room = let most : W * bit ≤ W * 63 = mul-le-mul_left W (omega arith) in omega arith

pub length-added : (block rows : List ℕ) (from : ℕ) → length block ≡ 16 → from + 16 ≤ length rows → length (zip2 bit_or block (chunk from 16 rows)) ≡ 16
length-added block rows from sixteen room = let both = length-chunk from 16 rows room in length-zip2 bit_or block (chunk from 16 rows) (omega arith) ∙ sixteen

tested : (n : ℕ) → n ≡ 1 → (n == 1) ≡ true
tested n is = rw is refl

-- one more word of the set
pub block-step : (words rows : List ℕ) (W at i b k : ℕ) (block block' : List ℕ) → (bit_at (get_or block i 0) b ≡ 0) ↔ IsClearIn words rows W (at + i) b (64 * k)
    → (bit_at (get_or block' i 0) b ≡ 0) ↔ ((bit_at (get_or block i 0) b ≡ 0) × IsClear (get_or words k 0) rows W (W * (64 * k) + at + i) b)
    → (bit_at (get_or block' i 0) b ≡ 0) ↔ IsClearIn words rows W (at + i) b (64 * (k + 1))
block-step words rows W at i b k block block' before step =
    let place : (q : ℕ) → W * (64 * k) + at + i + W * q ≡ at + i + W * (64 * k + q) = λ q. let e = mul-add W (64 * k) q in omega arith in (
      λ now q below is. elim (cases_lt q (64 * k)) [
        | inl low ↦ before.0 (step.0 now).0 q low is
        | inr high ↦
            let r : ℕ = q - 64 * k in
            let whole : 64 * k + r ≡ q = omega arith in
            let bit : bit_at (get_or words k 0) r ≡ 1 = eqb-true _ 1 (sym (has_bit-place words k r (omega arith)) ∙ ap (has_bit words) whole ∙ is) in
            ap (λ n. bit_at (get_or rows (at + i + W * n) 0) b) (sym whole) ∙ ap (λ n. bit_at (get_or rows n 0) b) (sym (place r)) ∙ (step.0 now).1 r (omega arith) bit
      ],
      λ then_. step.1 (
        before.1 (λ q low is. then_ q (omega arith) is),
        λ r low bit.
            ap (λ n. bit_at (get_or rows n 0) b) (place r)
            ∙ then_ (64 * k + r) (omega arith) (has_bit-place words k r low ∙ tested _ bit),
      ),
    )

-- a bit of a slot's row, by the place of its word among all rows
row_bit-is : (W : ℕ) (rows : List ℕ) (q j : ℕ) → length rows ≡ W * SLOTS → q < SLOTS → j / 64 < W
    → has_bit (row_at W rows q) j ≡ (bit_at (get_or rows (j / 64 + W * q) 0) (j % 64) == 1)
row_bit-is W rows q j size low inside =
    let place : W * q + j / 64 ≡ j / 64 + W * q = omega arith in
    ap (λ n. bit_at n (j % 64) == 1) (get_or-chunk (W * q) W rows (j / 64) 0 inside ∙ ap (λ n. get_or rows n 0) place)

module _ (set : SlotSet) (words rows : List ℕ) (W j bit : ℕ) (size : length rows ≡ W * SLOTS) (inside : j / 64 < W) (are : (q : ℕ)
    → has_bit words q ≡ contains set q) (small : bit < 2) (is : (bit ≡ 0) ↔ IsClearIn words rows W (j / 64) (j % 64) SLOTS) where
  abbrev held : ℕ → Bool
  held q = not (has_bit (row_at W rows q) j)

  clear_all : IsClearIn words rows W (j / 64) (j % 64) SLOTS → survives W rows j (ascending set) ≡ true
  unfolding members_below
  clear_all clear = all_from (contains set) held 0 SLOTS (λ q low in_a. not_false _ (λ e.
      let one : bit_at (get_or rows (j / 64 + W * q) 0) (j % 64) ≡ 1 = eqb-true _ 1 (sym (row_bit-is W rows q j size low inside) ∙ e) in
      absurd (omega (arith, one, clear q low (are q ∙ in_a)))))

  all_clear : survives W rows j (ascending set) ≡ true → IsClearIn words rows W (j / 64) (j % 64) SLOTS
  unfolding members_below
  all_clear all q low is_in =
      let off : has_bit (row_at W rows q) j ≡ false = not-true _ (all_at (contains set) held 0 SLOTS all q (omega arith) low (sym (are q) ∙ is_in)) in
      let lt = bit_at-lt (get_or rows (j / 64 + W * q) 0) (j % 64) in
      elim (cases_eq (bit_at (get_or rows (j / 64 + W * q) 0) (j % 64)) 1) [
        | inl one ↦ absurd (both_ways (has_bit (row_at W rows q) j) off (row_bit-is W rows q j size low inside ∙ tested _ one))
        | inr other ↦ omega arith
      ]

  -- the bit of a block says whether the bit survives the rows of all slots
  survives-is : not (bit == 1) ≡ survives W rows j (ascending set)
  survives-is = elim (cases_eq bit 1) [
    | inl one ↦ elim (cases_Bool (survives W rows j (ascending set))) [
      | inl all ↦ absurd (omega (arith, one, is.1 (all_clear all)))
      | inr none ↦ rw (one, none) refl
    ]
    | inr other ↦ let zeros : bit ≡ 0 = omega arith in rw (zeros, clear_all (is.0 zeros)) refl
  ]

module _ (set : SlotSet) (words rows block first old new : List ℕ) (W at : ℕ) (aligned : at % 16 ≡ 0) (within : at + 16 ≤ W) (size : length rows ≡ W * SLOTS)
    (are : (q : ℕ) → has_bit words q ≡ contains set q)
    (bits : (i b : ℕ) → i < 16 → b < 64
    → (bit_at (get_or block i 0) b ≡ 0) ↔ IsClearIn words rows W (at + i) b SLOTS) (long_old : length old ≡ length first)
    (long_new : length new ≡ length old)
    (taken : (i b : ℕ) → i < 16 → b < 64 → at + i < length old → (bit_at (get_or new (at + i) 0) b == 1) ≡ ((bit_at (get_or old (at + i) 0) b == 1) && not (bit_at (get_or block i 0) b == 1)))
    (before : (w : ℕ) → w < at → get_or new w 0 ≡ get_or old w 0)
    (done : (j : ℕ) → j < 64 * at → has_bit old j ≡ (has_bit first j && survives W rows j (ascending set)))
    (left : (w : ℕ) → at ≤ w → get_or old w 0 ≡ get_or first w 0) where
  past : (j : ℕ) → length old ≤ j / 64 → has_bit new j ≡ (has_bit first j && survives W rows j (ascending set))
  past j high =
      let none = get_or_past new (j / 64) 0 (omega arith) in
      let none_first = get_or_past first (j / 64) 0 (omega arith) in
      rw (none, none_first, bit_at-zero (j % 64)) refl

  here : (j : ℕ) → at ≤ j / 64 → j / 64 < at + 16 → j / 64 < length old → has_bit new j ≡ (has_bit first j && survives W rows j (ascending set))
  here j from to inside =
      let i : ℕ = j / 64 - at in
      let place : at + i ≡ j / 64 = omega arith in
      let clear : (bit_at (get_or block i 0) (j % 64) ≡ 0) ↔ IsClearIn words rows W (j / 64) (j % 64) SLOTS = rw place at
      (bits i (j % 64) (omega arith) (omega arith)) in
      ap (λ w. bit_at (get_or new w 0) (j % 64) == 1) (sym place)
      ∙ taken i (j % 64) (omega arith) (omega arith) (omega arith)
      ∙ ap (λ w. (bit_at (get_or old w 0) (j % 64) == 1) && not (bit_at (get_or block i 0) (j % 64) == 1)) place
      ∙ ap (λ n. (bit_at n (j % 64) == 1) && not (bit_at (get_or block i 0) (j % 64) == 1)) (left (j / 64) from)
      ∙ ap (λ b. has_bit first j && b) (survives-is set words rows W j (bit_at (get_or block i 0) (j % 64)) size (omega arith) are (bit_at-lt _ (j % 64)) clear)

  -- sixteen words more are done
  pub take_off-step : (j : ℕ) → j < 64 * (at + 16) → has_bit new j ≡ (has_bit first j && survives W rows j (ascending set))
  take_off-step j below = elim (cases_lt j (64 * at)) [
    | inl low ↦ ap (λ n. bit_at n (j % 64) == 1) (before (j / 64) (omega arith)) ∙ done j low
    | inr high ↦ elim (cases_lt (j / 64) (length old)) [
      | inl inside ↦ here j (omega arith) (omega arith) inside
      | inr beyond ↦ past j beyond
    ]
  ]

-- a bit of a word that another is taken off
pub taken_bit : (old other new b : ℕ) → other < 2 ^ 64 → b < 64 → new ≡ bit_and old (bit_not w64 other) → (bit_at new b == 1) ≡ ((bit_at old b == 1) && not (bit_at other b == 1))
taken_bit old other new b fits small is = rw (is, bit_at_and, bit_at_not w64 other b fits small) (only_bit _ _ (bit_at-lt _ b) (bit_at-lt _ b))

-- past the row no bit is set
pub past-row : (set : SlotSet) (rows first row : List ℕ) (W at : ℕ) → length row ≡ length first → length row ≤ at
    → ((j : ℕ) → j < 64 * at → has_bit row j ≡ (has_bit first j && survives W rows j (ascending set)))
    → (j : ℕ) → has_bit row j ≡ (has_bit first j && survives W rows j (ascending set))
past-row set rows first row W at long ends done j = elim (cases_lt j (64 * at)) [
  | inl low ↦ done j low
  | inr high ↦
      let none = get_or_past row (j / 64) 0 (omega arith) in
      let none_first = get_or_past first (j / 64) 0 (omega arith) in
      rw (none, none_first, bit_at-zero (j % 64)) refl
]
