-- Places that were passed, and the bits of those that were not.
use Rattle.std.proofs.Common.{ℕ, ◌+◌, ◌*◌, ◌-◌, ◌/◌, ◌%◌, ◌^◌, ◌<◌, ◌≡◌, ◌==◌, Bool, true, false, not, List, length, length-set, get_or, set, get_or-set_same, get_or-set_other, bit_and, ap, sym, ◌∙◌, inl, inr, arith, w64, replicate, rules}
use Rattle.std.specs.Int.{bit_at, bit_not}
use Rattle.std.proofs.lemmas.Bool.{both_ways, cases_Bool, cases_eq}
use Rattle.std.proofs.lemmas.List.{get_or-replicate, length-replicate}
use Rattle.std.proofs.lemmas.Nat.Bits.{bit_at_clear_other, bit_at_clear_same, bit_at_ones}
use Rattle.bitmap.specs.Slots.{has_bit}
use Rattle.bitmap.proofs.Edits.{other_bit, same_bit}
use Rattle.mesh_graph.specs.Groups.{Groups, compatible_at}
use Rattle.mesh_graph.proofs.Building.{compatible_at-within}
use Rattle.augment.specs.Walks.{AreOpposite, is_passed}

-- no place was passed
pub opposite-new : (words places : ℕ) → words ≡ (places + 63) / 64 → AreOpposite (replicate words (2 ^ 64 - 1)) (replicate places false)
opposite-new words places is =
    let wide = length-replicate words (2 ^ 64 - 1) in
    let long = length-replicate places false in
    record {
      size = omega (arith, wide, long);
      bits = λ k below.
          ap (λ n. bit_at n (k % 64) == 1) (get_or-replicate words (k / 64) (2 ^ 64 - 1) 0 (omega (arith, below, long)))
          ∙ ap (λ n. n == 1) (bit_at_ones 64 (k % 64) (omega arith))
          ∙ sym (ap not (get_or-replicate places k false false (omega (arith, below, long))));
    }

-- one place more was passed
pub opposite-pass : (unpassed : List ℕ) (passed : List Bool) (place word : ℕ) → AreOpposite unpassed passed → place < length passed → word ≡ get_or unpassed (place / 64) 0
    → AreOpposite (set unpassed (place / 64) (bit_and word (bit_not w64 (1 * 2 ^ (place % 64) % 2 ^ 64)))) (set passed place true)
opposite-pass unpassed passed place word opposite within is =
    let less : ℕ = bit_and word (bit_not w64 (1 * 2 ^ (place % 64) % 2 ^ 64)) in
    let inside : place / 64 < length unpassed = omega (arith, opposite.size) in
    let long = length-set passed place true in
    let wide = length-set unpassed (place / 64) less in
    record {
      size = omega (arith, long, wide, opposite.size);
      bits = λ k below. elim (cases_eq k place) [
        | inl here ↦
            ap (has_bit (set unpassed (place / 64) less)) here
            ∙ same_bit unpassed place inside less
            ∙ ap (λ n. n == 1) (bit_at_clear_same w64 word (place % 64) (omega arith))
            ∙ sym (ap (λ q. not (is_passed (set passed place true) q)) here ∙ ap not (get_or-set_same passed place true false within))
        | inr other ↦
            other_bit unpassed place inside less k other (λ i small apart. bit_at_clear_other w64 word (place % 64) (omega arith) i small apart ∙ ap (λ n. bit_at n i) is)
            ∙ opposite.bits k (omega (arith, long))
            ∙ sym (ap not (get_or-set_other passed place k true false other))
      ];
    }

-- a compatible place whose bit is off was passed
pub passed-from_bits : (graph : Groups) (unpassed : List ℕ) (passed : List Bool) (g q : ℕ) → AreOpposite unpassed passed → length passed ≡ length graph.owned
    → (has_bit unpassed q ≡ true → compatible_at graph g q ≡ false) → compatible_at graph g q ≡ true → is_passed passed q ≡ true
passed-from_bits graph unpassed passed g q opposite long off fits = search (rules, compatible_at-within, cases_Bool, both_ways)

-- a place whose bit is on was not passed
pub unpassed-from_bit : (unpassed : List ℕ) (passed : List Bool) (q : ℕ) → AreOpposite unpassed passed → q < length passed → has_bit unpassed q ≡ true → is_passed passed q ≡ false
unpassed-from_bit unpassed passed q opposite within on = search (rules, cases_Bool, both_ways)
