-- A list that is sorted by numbers of which each stands once is the list in ascending order.
use Rattle.std.proofs.Common.{◌≡◌, ℕ, Bool, List, map, get_or, Some, ap, sym, subst, ◌∙◌, refl, inl, inr, arith, eq-eqb, nat_eq, rules, filter}
use Rattle.std.specs.List.{Contains, IsDistinct}
use Rattle.std.specs.List.Sorted.{IsNonDecreasingBy, IsPermutation}
use Rattle.std.proofs.lemmas.Bool.{cases_eq, false≢true, ne_eqb}
use Rattle.std.proofs.lemmas.List.Sorted.{Contains-permutation, IsPermutation-map, IsPermutation-sym, IsPermutation-trans}
use Rattle.std.proofs.lemmas.Map.Keys.{IsDistinct-IsPermutation, IsDistinct-from_apart, apart_from_distinct}
use Rattle.std.proofs.lemmas.Option.{get_or_from_slice_get, slice_get-get_or, slice_get_within}
use Rattle.groups.proofs.Lists.{before-map}
use Rattle.span.specs.Ids.{rank}
use Rattle.span.specs.declared.entry.Entry.{Entry}
use Rattle.groups.specs.Group.{Ascend, summary}
use Rattle.pool.specs.Ranked.{head_rank, in_order}
use Rattle.pool.specs.State.{PooledState}
use Rattle.pool.proofs.Arranged.{AreUp, IsIn, IsPermutation-arranged, same_up}
use Rattle.pool.proofs.Heads.{Ascend-filter}
use Rattle.pool.proofs.Walked.{filter-arranged, paged}

IsIn-Contains : {X : Type 0} (xs : List X) (x : X) → IsIn xs x → Contains xs x
IsIn-Contains xs x there = (there.0, slice_get_within xs there.0 x there.1, get_or_from_slice_get xs there.0 x x there.1)

Contains-IsIn : {X : Type 0} (xs : List X) (x : X) → Contains xs x → IsIn xs x
Contains-IsIn xs x (k, low, is) = (k, slice_get-get_or xs k x low ∙ ap Some is)

module _ {X : Type 0} (key : X → ℕ) where
  abbrev same_key : X → X → Bool
  same_key a b = nat_eq (key a) (key b)

  flip_key : (a b : X) → same_key a b ≡ same_key b a
  flip_key a b = search (rules, cases_eq, eq-eqb, ne_eqb)

  IsDistinct-up : (xs : List X) → AreUp key xs → IsDistinct same_key xs
  IsDistinct-up xs up = IsDistinct-from_apart same_key xs (λ i j d low within.
      let less = up i j (get_or xs i d) (get_or xs j d) low (slice_get-get_or xs i d (omega arith)) (slice_get-get_or xs j d within) in
      ne_eqb (key (get_or xs i d)) (key (get_or xs j d)) (λ same. omega arith))

  pub sorted-same : (xs ys : List X) → AreUp key xs → IsPermutation xs ys → IsNonDecreasingBy key ys → ys ≡ xs
  sorted-same xs ys up moved rises = same_up key ys xs up_sorted up
      (λ z there. Contains-IsIn xs z (Contains-permutation ys xs z (IsPermutation-sym xs ys moved) (IsIn-Contains ys z there)))
      (λ z there. Contains-IsIn ys z (Contains-permutation xs ys z moved (IsIn-Contains xs z there)))
    where
      up_sorted : AreUp key ys
      up_sorted i j a b low at_i at_j =
          let within = slice_get_within ys j b at_j in
          let least = rises i j a (omega arith) within in
          let apart = apart_from_distinct same_key ys i j a (IsDistinct-IsPermutation same_key flip_key xs ys moved (IsDistinct-up xs up)) low within in
          let first = ap key (get_or_from_slice_get ys i a a at_i) in
          let second = ap key (get_or_from_slice_get ys j b a at_j) in
          elim (cases_eq (key a) (key b)) [
            | inl same ↦ absurd (false≢true (sym apart ∙ eq-eqb (key (get_or ys i a)) (key (get_or ys j a)) (first ∙ same ∙ sym second)))
            | inr other ↦ omega arith
          ]

-- the numbers of what is told of elements in ascending order ascend
pub AreUp-map : {X Y : Type 0} (key : X → ℕ) (other : Y → ℕ) (f : X → Y) → ((x : X) → other (f x) ≡ key x) → (xs : List X) → AreUp key xs → AreUp other (map f xs)
AreUp-map key other f same xs up low high a b less at_low at_high = search (rules, before-map)

-- the groups of a row, sorted by their heads
pub groups-sorted : (row sorted : List PooledState) → Ascend (in_order row) → IsPermutation row sorted → IsNonDecreasingBy head_rank sorted → sorted ≡ in_order row
groups-sorted row sorted ascend moved rises =
    sorted-same head_rank (in_order row) sorted ascend
    (IsPermutation-trans (in_order row) row sorted (IsPermutation-sym row (in_order row) (IsPermutation-arranged head_rank row)) moved) rises

-- what is told of those of a row that have a page, sorted by their heads
pub summaries-sorted : (row : List PooledState) (list sorted : List Entry) → Ascend (in_order row) → list ≡ map summary (filter paged row) → IsPermutation list sorted
    → IsNonDecreasingBy (λ entry. rank entry.id) sorted → sorted ≡ map summary (filter paged (in_order row))
summaries-sorted row list sorted ascend told moved rises =
    sorted-same (λ (entry : Entry). rank entry.id) (map summary (filter paged (in_order row))) sorted
    (AreUp-map head_rank (λ (entry : Entry). rank entry.id) summary (λ group. refl) (filter paged (in_order row)) (Ascend-filter paged (in_order row) ascend))
    (IsPermutation-trans (map summary (filter paged (in_order row))) list sorted
    (subst (IsPermutation (map summary (filter paged (in_order row)))) (sym told)
    (IsPermutation-map summary (filter paged (in_order row)) (filter paged row) (IsPermutation-sym (filter paged row) (filter paged (in_order row)) (filter-arranged paged head_rank row))))
    moved)
    rises
