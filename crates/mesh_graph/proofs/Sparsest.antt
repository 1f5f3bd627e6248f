-- What is chosen of a sorted list.
use Rattle.std.proofs.Common.{ℕ, ◌+◌, ◌<◌, ◌≤◌, ◌≡◌, ◌++◌, ◌∷◌, List, [], length, take, drop, sym, subst, refl, ◌∙◌, ap, arith, get_or, rules}
use Rattle.std.specs.List.{All}
use Rattle.std.specs.List.Sorted.{IsNonDecreasingBy, IsPermutation}
use Rattle.std.proofs.lemmas.List.{append-nil, get_or_append_left, get_or-drop, get_or-take, get_or_default, length-append, length-drop, length-take-le, take-append-drop}
use Rattle.std.proofs.lemmas.List.Sorted.{All-permutation, IsPermutation-append_left, IsPermutation-trans, length_permutation}
use Rattle.span.specs.declared.entry.Entry.{Entry}
use Rattle.mesh_graph.specs.Sparsest.{AreSparsest, occupied_count}

-- the first of those that stand by their numbers of live slots, in another order
pub AreSparsest-first : (most : ℕ) (entries by_count chosen : List Entry) → most ≤ length entries → IsPermutation entries by_count
    → IsNonDecreasingBy occupied_count by_count → IsPermutation (take most by_count) chosen → AreSparsest most entries chosen
AreSparsest-first most entries by_count chosen some sorted up moved =
    let len = length_permutation entries by_count sorted in
    let short = length-take-le most by_count (omega (arith, len)) in
    record {
      left_out = drop most by_count;
      each = IsPermutation-trans entries by_count (chosen ++ drop most by_count) sorted
          (subst (λ (list : List Entry). IsPermutation list (chosen ++ drop most by_count)) (take-append-drop most by_count)
          (IsPermutation-append_left (drop most by_count) (take most by_count) chosen moved));
      count = omega (arith, length_permutation (take most by_count) chosen moved, short, len);
      fewest = All-permutation (λ (a : Entry). All (λ (b : Entry). occupied_count a ≤ occupied_count b) (drop most by_count)) (take most by_count) chosen moved
          (λ i a low k b within.
          let first : i < most = omega (arith, low, short) in
          let later : most + k < length by_count = omega (arith, within, length-drop most by_count) in
          subst (λ (y : Entry). occupied_count (get_or (take most by_count) i a) ≤ occupied_count y) (sym (get_or-drop most by_count k b))
          (subst (λ (x : Entry). occupied_count x ≤ occupied_count (get_or by_count (most + k) b)) (sym (get_or-take most by_count i a first))
          (subst (λ (x : Entry). occupied_count x ≤ occupied_count (get_or by_count (most + k) b)) (get_or_default by_count i b a (omega arith)) (up i (most + k) b (omega arith) later))));
    }

-- where there are no more, all are chosen
pub permutation-few : (most : ℕ) (entries chosen : List Entry) → AreSparsest most entries chosen → length entries ≤ most → IsPermutation entries chosen
permutation-few most entries chosen sparsest few =
    let all = length_permutation entries (chosen ++ sparsest.left_out) sparsest.each in
    let none : sparsest.left_out ≡ [] = empty_by_length sparsest.left_out (omega (arith, all, sparsest.count, length-append chosen sparsest.left_out)) in
    subst (IsPermutation entries) (ap (λ (rest : List Entry). chosen ++ rest) none ∙ append-nil chosen) sparsest.each
  where
    empty_by_length : (list : List Entry) → length list ≡ 0 → list ≡ []
    empty_by_length [] none = refl
    empty_by_length (x ∷ list) none = absurd (omega (arith, none))

-- what holds of each entry holds of each that is chosen
pub All-sparsest : (P : Entry → Type 0) (most : ℕ) (entries chosen : List Entry) → AreSparsest most entries chosen → All P entries → All P chosen
All-sparsest P most entries chosen sparsest all i d low =
    subst P (get_or_append_left chosen sparsest.left_out d i low)
    (All-permutation P entries (chosen ++ sparsest.left_out) sparsest.each all i d (omega (arith, low, length-append chosen sparsest.left_out)))

-- the order in which they stood makes no difference
pub AreSparsest-permuted : (most : ℕ) (entries others chosen : List Entry) → IsPermutation entries others → AreSparsest most others chosen → AreSparsest most entries chosen
AreSparsest-permuted most entries others chosen moved sparsest = search (rules, IsPermutation-trans, length_permutation)
