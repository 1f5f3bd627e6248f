-- The ranks of heads, listed and sorted.
use Rattle.std.proofs.Common.{◌≡◌, ℕ, ◌+◌, ◌<◌, true, false, List, [], ◌∷◌, ◌++◌, Some, length, map, take, sym, ap, ◌∙◌, arith, get_or, slice_get, is_some, nat_eq, inl, inr, eq-eqb}
use Rattle.std.specs.List.{IsDistinct}
use Rattle.std.specs.List.Sorted.{IsPermutation, IsStrictlyIncreasing}
use Rattle.std.proofs.lemmas.Bool.{both_ways, cases_Bool, cases_eq, ne_eqb}
use Rattle.std.proofs.lemmas.List.{get_or-map, length-map, map-append}
use Rattle.std.proofs.lemmas.List.Kept.{AllPairs-from_increasing}
use Rattle.std.proofs.lemmas.List.Sorted.{IsPermutation-sym}
use Rattle.std.proofs.lemmas.Map.Keys.{apart_from_distinct, IsDistinct-from_apart, IsDistinct-IsPermutation}
use Rattle.groups.specs.Group.{summary}
use Rattle.mesh_graph.proofs.Entries.{rank-same}
use Rattle.mesh_graph.specs.Groups.{ids}
use Rattle.shard.proofs.Entries.{entries-bare, entries-paged, entries_in}
use Rattle.shard.specs.Group.{GroupState}
use Rattle.span.specs.Ids.{rank, same_span}
use Rattle.span.specs.declared.entry.Entry.{Entry}

abbrev pub ranks_of : List Entry → List ℕ
ranks_of entries = map rank (ids entries)

pub ranks-append : (xs ys : List Entry) → ranks_of (xs ++ ys) ≡ ranks_of xs ++ ranks_of ys
ranks-append xs ys = ap (map rank) (map-append (λ (x : Entry). x.id) xs ys) ∙ map-append rank (ids xs) (ids ys)

-- one group more
module _ (groups : List GroupState) (at : ℕ) (group : GroupState) (here : slice_get groups at ≡ Some group) where
  pub ranks-paged : is_some group.page ≡ true → ranks_of (entries_in (take at groups)) ++ rank group.head.id ∷ [] ≡ ranks_of (entries_in (take (at + 1) groups))
  ranks-paged paged = sym (ranks-append (entries_in (take at groups)) (summary group ∷ [])) ∙ ap ranks_of (entries-paged groups at group here paged)

  pub ranks-bare : is_some group.page ≡ false → ranks_of (entries_in (take at groups)) ≡ ranks_of (entries_in (take (at + 1) groups))
  ranks-bare bare = ap ranks_of (entries-bare groups at group here bare)

flip_eq : (a b : ℕ) → nat_eq a b ≡ nat_eq b a
flip_eq a b = elim (cases_eq a b) [
  | inl same ↦ eq-eqb a b same ∙ sym (eq-eqb b a (sym same))
  | inr apart ↦ ne_eqb a b apart ∙ sym (ne_eqb b a (λ e. apart (sym e)))
]

IsDistinct-rising : (ranks : List ℕ) → IsStrictlyIncreasing ranks → IsDistinct nat_eq ranks
IsDistinct-rising ranks up = IsDistinct-from_apart nat_eq ranks (λ i j d less within.
    let low : get_or ranks i d < get_or ranks j d = AllPairs-from_increasing ranks up i j d less within in
    ne_eqb (get_or ranks i d) (get_or ranks j d) (λ same. omega (arith, low, same)))

-- ids whose ranks rise once they are sorted stand once
pub distinct-ranks : (entries : List Entry) (sorted : List ℕ) → IsPermutation (ranks_of entries) sorted → IsStrictlyIncreasing sorted → IsDistinct same_span (ids entries)
distinct-ranks entries sorted moved up = IsDistinct-from_apart same_span (ids entries) (λ i j d less within.
    let ranks = ranks_of entries in
    let long : length ranks ≡ length (ids entries) = length-map (ids entries) rank in
    let once : IsDistinct nat_eq ranks = IsDistinct-IsPermutation nat_eq flip_eq sorted ranks (IsPermutation-sym ranks sorted moved) (IsDistinct-rising sorted up) in
    let apart : nat_eq (get_or ranks i 0) (get_or ranks j 0) ≡ false = apart_from_distinct nat_eq ranks i j 0 once less (omega (arith, within, long)) in
    let first : get_or ranks i 0 ≡ rank (get_or (ids entries) i d) = get_or-map rank (ids entries) i d 0 (omega (arith, less, within)) in
    let second : get_or ranks j 0 ≡ rank (get_or (ids entries) j d) = get_or-map rank (ids entries) j d 0 within in
    elim (cases_Bool (same_span (get_or (ids entries) i d) (get_or (ids entries) j d))) [
      | inl e ↦ absurd (both_ways (nat_eq (get_or ranks i 0) (get_or ranks j 0)) apart
          (eq-eqb (get_or ranks i 0) (get_or ranks j 0) (first ∙ rank-same (get_or (ids entries) i d) (get_or (ids entries) j d) e ∙ sym second)))
      | inr e ↦ e
    ])
