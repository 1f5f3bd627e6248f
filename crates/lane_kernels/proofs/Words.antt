-- The lanes of a block of columns.
use Rattle.std.proofs.Common.{◌≡◌, eq-eqb, ℕ, ◌+◌, ◌*◌, ◌-◌, ◌^◌, ◌%◌, ◌≤◌, List, map, length, bit_and, bit_or, Bool, ◌==◌, cond, ap, sym, ◌∙◌, arith, w64, refl, lit≤, pow-suc, add-one, ◌<◌, ◌/◌, if◌then◌else◌, false, rules}
use Rattle.std.specs.Prelude.{replicate, slice_index}
use Rattle.std.specs.List.{range_with_len}
use Rattle.std.specs.Simd.Lanes.{mask_l, top, zip2, chunk}
use mir.Val.{bits, hbits}
use Rattle.std.proofs.lemmas.Simd.{pick_l-range_with_len, zip2_of_maps, splat_is_map, bitmask_splat, map-map, mask_l-lt, bit_mask_l}
use Rattle.std.proofs.lemmas.List.FromFn.{length-map-range_with_len, get_or-map-range_with_len}
use Rattle.std.proofs.lemmas.List.{get_or_past}
use Rattle.std.proofs.Math.Nat.{one-mul, zero-mul}
use Rattle.std.proofs.Math.Pow.{pow_mono, pow_pos}
use Rattle.std.proofs.lemmas.Bool.{cases_eq, ne_eqb}
use Rattle.std.proofs.lemmas.Nat.Bits.{and_pow, bit_at-lt as bit-lt}
use Rattle.lane_kernels.specs.Planes.{is_apart, word_of}

-- the lanes of one plane, met with one word of the set
met : (p : List ℕ) (w at : ℕ) → at + 64 ≤ length p → zip2 bit_and (replicate 64 w) (chunk at 64 p) ≡ map (λ k. bit_and w (slice_index p k)) (range_with_len at 64)
met p w at room =
    zip2_of_maps bit_and (λ _. w) (λ k. slice_index p k) (range_with_len at 64) (splat_is_map (range_with_len at 64) 64 w refl) (sym (pick_l-range_with_len 0 p at 64 room))

pub block : (a p q r s : List ℕ) (at : ℕ) → at + 64 ≤ length p → at + 64 ≤ length q → at + 64 ≤ length r → at + 64 ≤ length s
    → let lanes = zip2 bit_or (zip2 bit_or (zip2 bit_or (zip2 bit_and (replicate 64 (slice_index a 0)) (chunk at 64 p)) (zip2 bit_and (replicate 64 (slice_index a 1)) (chunk at 64 q))) (zip2 bit_and (replicate 64 (slice_index a 2)) (chunk at 64 r))) (zip2 bit_and (replicate 64 (slice_index a 3)) (chunk at 64 s)) in
    mask_l (map (top (hbits w64)) (zip2 (λ x y. cond (x == y) (2 ^ bits w64 - 1) 0) lanes (replicate 64 0))) % 2 ^ 64 ≡ word_of (is_apart a p q r s) at 64
block a p q r s at hp hq hr hs =
    let V = range_with_len at 64 in
    let a0 = slice_index a 0 in
    let a1 = slice_index a 1 in
    let a2 = slice_index a 2 in
    let a3 = slice_index a 3 in
    let mp = λ (k : ℕ). bit_and a0 (slice_index p k) in
    let mq = λ (k : ℕ). bit_and a1 (slice_index q k) in
    let mr = λ (k : ℕ). bit_and a2 (slice_index r k) in
    let ms = λ (k : ℕ). bit_and a3 (slice_index s k) in
    let pq = zip2_of_maps bit_or mp mq V (met p a0 at hp) (met q a1 at hq) in
    let pqr = zip2_of_maps bit_or (λ k. bit_or (mp k) (mq k)) mr V pq (met r a2 at hr) in
    let pqrs = zip2_of_maps bit_or (λ k. bit_or (bit_or (mp k) (mq k)) (mr k)) ms V pqr (met s a3 at hs) in
    let lanes = map (λ (k : ℕ). bit_or (bit_or (bit_or (mp k) (mq k)) (mr k)) (ms k)) V in
    ap (λ l. mask_l (map (top (hbits w64)) (zip2 (λ (x y : ℕ). cond (x == y) (2 ^ bits w64 - 1) 0) l (replicate 64 0))) % 2 ^ 64) pqrs
    ∙ bitmask_splat w64 (λ (x y : ℕ). x == y) lanes 64 0 refl (lit≤ tt)
    ∙ ap mask_l (map-map (λ (x : ℕ). x == 0) (λ (k : ℕ). bit_or (bit_or (bit_or (mp k) (mq k)) (mr k)) (ms k)) V)

-- the bits of n columns fit n bits
pub bound : (test : ℕ → Bool) (first n : ℕ) → word_of test first n < 2 ^ n
bound test first n = rw (length-map-range_with_len test first n) at (mask_l-lt (map test (range_with_len first n)))

-- bit k of the bits of n columns
pub bit_at : (test : ℕ → Bool) (first n k j : ℕ) → k < n → first + k ≡ j → word_of test first n / 2 ^ k % 2 ≡ (if test j then 1 else 0)
bit_at test first n k j below is = bit_mask_l (map test (range_with_len first n)) k ∙ ap (λ b. if b then 1 else 0) (get_or-map-range_with_len test first n k j false below is)

-- past the n columns no bit is set
pub no_bit_at : (test : ℕ → Bool) (first n k : ℕ) → n ≤ k → word_of test first n / 2 ^ k % 2 ≡ 0
no_bit_at test first n k past =
    let long : length (map test (range_with_len first n)) ≤ k = omega (arith, length-map-range_with_len test first n) in
    bit_mask_l (map test (range_with_len first n)) k ∙ ap (λ b. if b then 1 else 0) (get_or_past (map test (range_with_len first n)) k false long)

-- twice the bits of fewer than 64 columns, and one more, fit a word
pub doubled : (test : ℕ → Bool) (first n : ℕ) → n < 64 → 2 * word_of test first n + 1 < 2 ^ 64
doubled test first n few = let b = bound test first n in let m : 2 ^ (n + 1) ≤ 2 ^ 64 = pow_mono {i = n + 1} {j = 64} (omega arith) in let e = add-one n in
    omega (arith, pow-suc 2 n, ap (λ k. 2 ^ k) e)

has_one : (x k : ℕ) → (bit_and x (2 ^ k) == 2 ^ k) ≡ (x / 2 ^ k % 2 == 1)
has_one x k = search (rules, cases_eq, bit_and, and_pow, one-mul, eq-eqb, bit-lt, zero-mul, pow_pos, ne_eqb)

-- the lanes of one plane that have a bit
pub with_bit : (p : List ℕ) (k at m : ℕ) → m ≡ 2 ^ k → at + 64 ≤ length p
    → mask_l (map (top (hbits w64)) (zip2 (λ x y. cond (x == y) (2 ^ bits w64 - 1) 0) (zip2 bit_and (chunk at 64 p) (replicate 64 m)) (replicate 64 m))) % 2 ^
    64 ≡ word_of (λ j. slice_index p j / 2 ^ k % 2 == 1) at 64
with_bit p k at m is room =
    let V = range_with_len at 64 in
    let has = λ (j : ℕ). bit_and (slice_index p j) m in
    let lanes = zip2_of_maps bit_and (λ j. slice_index p j) (λ _. m) V (sym (pick_l-range_with_len 0 p at 64 room)) (splat_is_map V 64 m refl) in
    ap (λ l. mask_l (map (top (hbits w64)) (zip2 (λ (x y : ℕ). cond (x == y) (2 ^ bits w64 - 1) 0) l (replicate 64 m))) % 2 ^ 64) lanes
    ∙ bitmask_splat w64 (λ (x y : ℕ). x == y) (map has V) 64 m refl (lit≤ tt)
    ∙ ap mask_l (map-map (λ (x : ℕ). x == m) has V)
    ∙ ap (λ (test : ℕ → Bool). mask_l (map test V)) (λ i j. (ap (λ n. bit_and (slice_index p j) n == n) is ∙ has_one (slice_index p j) k) i)
