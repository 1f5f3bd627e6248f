-- Lists of the groups with few live slots.
use Rattle.std.proofs.Common.{zero, suc, ℕ, ◌+◌, ◌≤◌, ◌<◌, ◌≡◌, ◌++◌, ◌∷◌, Bool, true, false, List, [], Some, length, map, take, slice_get, append_assoc, ap, arith, refl, subst, sym, ◌∙◌, filter}
use Rattle.std.specs.FinSet as set
use Rattle.std.specs.List.{All}
use Rattle.std.specs.List.Sorted.{IsPermutation}
use Rattle.std.proofs.lemmas.List.{append-nil, map-append}
use Rattle.std.proofs.lemmas.List.Elements.{All-append}
use Rattle.std.proofs.lemmas.List.Sorted.{IsPermutation-append_comm, IsPermutation-append_left, IsPermutation-append_right, IsPermutation-map, IsPermutation-refl, IsPermutation-sym, IsPermutation-trans, length_permutation}
use Rattle.span.specs.declared.entry.Entry.{Entry}
use Rattle.groups.specs.Group.{occupied, summary}
use Rattle.pool.specs.Sparse.{AreParted, HaveSparsest}
use Rattle.pool.specs.State.{PooledState}
use Rattle.pool.specs.Ranked.{head_rank, in_order}
use Rattle.pool.proofs.Walked.{filter-arranged, paged, paged-as_before, paged-more}

-- all of them
pub HaveSparsest-all : (most : ℕ) (entries : List Entry) → HaveSparsest most entries entries
HaveSparsest-all most entries = record {
  left_out = [];
  each = subst (IsPermutation entries) (sym (append-nil entries)) (IsPermutation-refl entries);
  enough = omega arith;
  fewest = λ i a low k b none. absurd (omega (arith, none));
}

-- those that are parted off by a bound, if they are enough
pub HaveSparsest-parted : (most bound : ℕ) (entries found : List Entry) → AreParted bound entries found → most ≤ length found → HaveSparsest most entries found
HaveSparsest-parted most bound entries found parted enough = record {
  left_out = parted.left_out;
  each = parted.each;
  enough = omega (arith, enough);
  fewest = λ i a low k b high. omega (arith, parted.below i a low, parted.above k b high);
}

-- the same groups in another order
pub HaveSparsest-permuted : (most : ℕ) (entries others found : List Entry) → IsPermutation entries others → HaveSparsest most others found → HaveSparsest most entries found
HaveSparsest-permuted most entries others found moved sparsest = record {
  left_out = sparsest.left_out;
  each = IsPermutation-trans entries others (found ++ sparsest.left_out) moved sparsest.each;
  enough = omega (arith, sparsest.enough, length_permutation entries others moved);
  fewest = sparsest.fewest;
}

all_one : (P : Entry → Type 0) (entry : Entry) → P entry → All P (entry ∷ [])
all_one P entry its zero d low = its
all_one P entry its (suc k) d low = absurd (omega (arith, low))

-- one group more
module _ (bound : ℕ) (entries found : List Entry) (entry : Entry) (parted : AreParted bound entries found) where
  abbrev rest : List Entry
  rest = parted.left_out

  appended : IsPermutation (entries ++ entry ∷ []) (found ++ (rest ++ entry ∷ []))
  appended = subst (IsPermutation (entries ++ entry ∷ [])) (append_assoc found rest (entry ∷ [])) (IsPermutation-append_left (entry ∷ []) entries (found ++ rest) parted.each)

  pub AreParted-found : set.len entry.occupied < bound → AreParted bound (entries ++ entry ∷ []) (found ++ entry ∷ [])
  AreParted-found few = record {
    left_out = rest;
    each = subst (IsPermutation (entries ++ entry ∷ [])) (sym (append_assoc found (entry ∷ []) rest))
        (IsPermutation-trans (entries ++ entry ∷ []) (found ++ (rest ++ entry ∷ [])) (found ++ ((entry ∷ []) ++ rest)) appended
        (IsPermutation-append_right found (rest ++ entry ∷ []) ((entry ∷ []) ++ rest) (IsPermutation-append_comm rest (entry ∷ []))));
    below = All-append (λ (a : Entry). set.len a.occupied < bound) found (entry ∷ []) parted.below (all_one (λ (a : Entry). set.len a.occupied < bound) entry few);
    above = parted.above;
  }

  pub AreParted-left : bound ≤ set.len entry.occupied + 1 → AreParted bound (entries ++ entry ∷ []) found
  AreParted-left many = record {
    left_out = rest ++ entry ∷ [];
    each = appended;
    below = parted.below;
    above = All-append (λ (b : Entry). bound ≤ set.len b.occupied + 1) rest (entry ∷ []) parted.above (all_one (λ (b : Entry). bound ≤ set.len b.occupied + 1) entry many);
  }

-- none yet
pub AreParted-none : (bound : ℕ) → AreParted bound [] []
AreParted-none bound = record {
  left_out = [];
  each = IsPermutation-refl [];
  below = λ i a low. absurd (omega (arith, low));
  above = λ i a low. absurd (omega (arith, low));
}

pub AreParted-start : (bound : ℕ) (groups : List PooledState) → AreParted bound (map summary (filter paged (take 0 groups))) []
AreParted-start bound [] = AreParted-none bound
AreParted-start bound (group ∷ groups) = AreParted-none bound

module _ (groups : List PooledState) (at : ℕ) (group : PooledState) (here : slice_get groups at ≡ Some group) where
  pub summaries-more : paged group ≡ true → map summary (filter paged (take at groups)) ++ summary group ∷ [] ≡ map summary (filter paged (take (at + 1) groups))
  summaries-more on = sym (ap (map summary) (paged-more groups at group here on) ∙ map-append summary (filter paged (take at groups)) (group ∷ []))

  pub summaries-as_before : paged group ≡ false → map summary (filter paged (take at groups)) ≡ map summary (filter paged (take (at + 1) groups))
  summaries-as_before off = sym (ap (map summary) (paged-as_before groups at group here off))

  -- a group in which too many slots are live is left out, if it has a page, and has no entry if it has none
  pub AreParted-passed : (bound : ℕ) (found : List Entry) → bound ≤ set.len (occupied group) → AreParted bound (map summary (filter paged (take at groups))) found
      → AreParted bound (map summary (filter paged (take (at + 1) groups))) found
  AreParted-passed bound found many parted = by_test (paged group) refl
    where
      by_test : (b : Bool) → paged group ≡ b → AreParted bound (map summary (filter paged (take (at + 1) groups))) found
      by_test true on = subst (λ (entries : List Entry). AreParted bound entries found) (summaries-more on)
          (AreParted-left bound (map summary (filter paged (take at groups))) found (summary group) parted (omega (arith, many)))
      by_test false off = subst (λ (entries : List Entry). AreParted bound entries found) (summaries-as_before off) parted

-- those of a row are those in order
pub HaveSparsest-in_order : (most : ℕ) (row : List PooledState) (found : List Entry) → HaveSparsest most (map summary (filter paged row)) found
    → HaveSparsest most (map summary (filter paged (in_order row))) found
HaveSparsest-in_order most row found sparsest = HaveSparsest-permuted most (map summary (filter paged (in_order row))) (map summary (filter paged row)) found
    (IsPermutation-map summary (filter paged (in_order row)) (filter paged row)
    (IsPermutation-sym (filter paged row) (filter paged (in_order row)) (filter-arranged paged head_rank row)))
    sparsest
