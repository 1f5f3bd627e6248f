-- The counts of a block of columns.
use Rattle.std.proofs.Common.{◌≡◌, ℕ, ◌+◌, ◌-◌, ◌^◌, ◌%◌, ◌<◌, ◌≤◌, List, map, length, get_or, count_ones, ap, sym, ◌∙◌, arith, refl, Fits, w32, rules}
use Rattle.std.specs.Prelude.{slice_index}
use Rattle.std.specs.List.{range_with_len}
use Rattle.std.specs.Simd.Lanes.{Each1, zip2, chunk, put_chunk}
use Rattle.std.proofs.lemmas.Simd.{Each1-from_get_or, pick_l-range_with_len, zip2_of_maps, map-map, get_or-put_chunk_at}
use Rattle.std.proofs.lemmas.Nat.{ones-le}
use Rattle.std.proofs.lemmas.List.FromFn.{length-map-range_with_len, get_or-map-range_with_len}
use Rattle.std.specs.FinSet.{len}
use Rattle.bitmap.specs.Slots.{slots_of_words}
use Rattle.bitmap.proofs.Counts.{len-slots_of_words}
use Rattle.lane_kernels.specs.Planes.{column, ones_of}

-- the ones of the lanes of one plane
ones : (p : List ℕ) (at : ℕ) → at + 8 ≤ length p → map (λ x. x) (map count_ones (chunk at 8 p)) ≡ map (λ k. count_ones (slice_index p k)) (range_with_len at 8)
ones p at room =
    map-map (λ x. x) count_ones (chunk at 8 p)
    ∙ ap (map count_ones) (sym (pick_l-range_with_len 0 p at 8 room))
    ∙ map-map count_ones (λ k. slice_index p k) (range_with_len at 8)

-- adding in words of 64 bits
abbrev pub plus : ℕ → ℕ → ℕ
plus x y = (x + y) % 2 ^ 64

module _ (p q r s : List ℕ) (at : ℕ) (in_p : at + 8 ≤ length p) (in_q : at + 8 ≤ length q) (in_r : at + 8 ≤ length r) (in_s : at + 8 ≤ length s)
    (fit_p : (k : ℕ) → slice_index p k < 2 ^ 64) (fit_q : (k : ℕ) → slice_index q k < 2 ^ 64) (fit_r : (k : ℕ) → slice_index r k < 2 ^ 64) (fit_s : (k : ℕ) → slice_index s k < 2 ^ 64) where
  abbrev lanes_of : List ℕ → List ℕ
  lanes_of row = map (λ x. x) (map count_ones (chunk at 8 row))

  abbrev pub lanes : List ℕ
  lanes = zip2 plus (zip2 plus (zip2 plus (lanes_of p) (lanes_of q)) (lanes_of r)) (lanes_of s)

  summed : (k : ℕ) → plus (plus (plus (count_ones (slice_index p k)) (count_ones (slice_index q k))) (count_ones (slice_index r k))) (count_ones (slice_index s k)) ≡ ones_of p q r s k
  summed k = omega (arith, ones-le 64 _ (fit_p k), ones-le 64 _ (fit_q k), ones-le 64 _ (fit_r k), ones-le 64 _ (fit_s k))

  few : (k : ℕ) → ones_of p q r s k < 2 ^ 32
  few k = omega (arith, ones-le 64 _ (fit_p k), ones-le 64 _ (fit_q k), ones-le 64 _ (fit_r k), ones-le 64 _ (fit_s k))

  pub lanes-are : lanes ≡ map (ones_of p q r s) (range_with_len at 8)
  lanes-are = search (rules, count_ones, zip2_of_maps, ones, summed)

  -- the counts that were written
  pub written : (counts : List ℕ) → at + 8 ≤ length counts → (k : ℕ) → at ≤ k → k < at + 8 → get_or (put_chunk at counts (map (λ x. x) lanes)) k 0 ≡ ones_of p q r s k
  written counts room k from below =
      let here : at + (k - at) ≡ k = omega arith in
      let all : map (λ x. x) lanes ≡ map (ones_of p q r s) (range_with_len at 8) = ap (map (λ x. x)) lanes-are ∙ map-map (λ x. x) (ones_of p q r s) (range_with_len at 8) in
      let long = length-map-range_with_len (ones_of p q r s) at 8 in
      ap (λ l. get_or (put_chunk at counts l) k 0) all
      ∙ ap (λ j. get_or (put_chunk at counts (map (ones_of p q r s) (range_with_len at 8))) j 0) (sym here)
      ∙ get_or-put_chunk_at at counts (map (ones_of p q r s) (range_with_len at 8)) (k - at) 0 (omega (arith, long)) (omega (arith, long))
      ∙ get_or-map-range_with_len (ones_of p q r s) at 8 (k - at) k 0 (omega arith) here

  pub lanes-fit : Each1 (λ x. Fits w32 x) lanes
  lanes-fit = rw lanes-are (Each1-from_get_or (λ x. Fits w32 x) (map (ones_of p q r s) (range_with_len at 8)) 0 (λ i below.
      rw (get_or-map-range_with_len (ones_of p q r s) at 8 i (at + i) 0 (omega (arith, below, length-map-range_with_len (ones_of p q r s) at 8)) refl) (record { fits = few (at + i) })))

-- a set has as many slots as its column has ones
pub ones-len : (p q r s : List ℕ) (k : ℕ) → slice_index p k < 2 ^ 64 → slice_index q k < 2 ^ 64 → slice_index r k < 2 ^ 64 → slice_index s k < 2 ^ 64
    → ones_of p q r s k ≡ len (slots_of_words (column p q r s k))
ones-len p q r s k in_p in_q in_r in_s = len-slots_of_words (column p q r s k) (record { four = refl; fit = fit })
  where
    fit : (i : ℕ) → slice_index (column p q r s k) i < 2 ^ 64
    fit i = search rules
