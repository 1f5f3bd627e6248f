-- What the last search leaves is an outcome
use Rattle.std.proofs.Common.{ℕ, ◌<◌, ◌≡◌, Bool, true, List, length, Option, Some, None, sym, ◌∙◌, ap, inl, inr, arith, get_or, zero, suc, rules}
use Rattle.std.proofs.lemmas.List.{get_or-map, length-map}
use Rattle.std.proofs.lemmas.Option.{slice_get-get_or}
use Rattle.span.specs.declared.id.SpanId.{SpanId}
use Rattle.span.specs.Ids.{same_span}
use Rattle.certificate.proofs.Verdicts.{tells_span}
use Rattle.augment.specs.Mates.{mate, ArePaired}
use Rattle.mesh_graph.specs.Groups.{Groups, IsAscending, any_compatible, are_partners, compatible_at, ids}
use Rattle.augment.specs.Walks.{Joins, group, before, IsReached, IsSearched}
use Rattle.augment.specs.Listed.{is_short}
use Rattle.span.specs.declared.entry.Entry.{Entry}
use Rattle.mesh_graph.proofs.Entries.{any_compatible-at}
use Rattle.mesh_graph.proofs.Order.{distinct-from_ascending}
use Rattle.certificate.specs.Plans.{sides_of}
use Rattle.augment.proofs.Lists.{a_member}
use Rattle.augment.proofs.Pairing.{mate_within}
use Rattle.augment.proofs.Outcome.{IsOutcome, mate_cases}

-- the groups at two places, by their ids
any_compatible-ids : (graph : Groups) → IsAscending (ids graph.abandoned) → IsAscending (ids graph.owned) → (i j : ℕ) (d : SpanId) → i < length graph.abandoned → j < length graph.owned
    → any_compatible graph (get_or (ids graph.abandoned) i d) (get_or (ids graph.owned) j d) ≡ compatible_at graph i j
unfolding compatible_at
any_compatible-ids graph up_a up_b i j d i_in j_in =
    let left = a_member graph.abandoned i i_in in
    let right = a_member graph.owned j j_in in
    let at_i : get_or (ids graph.abandoned) i d ≡ (get_or graph.abandoned i left).id = get_or-map (λ (x : Entry). x.id) graph.abandoned i left d i_in in
    let at_j : get_or (ids graph.owned) j d ≡ (get_or graph.owned j right).id = get_or-map (λ (x : Entry). x.id) graph.owned j right d j_in in
    any_compatible-at graph (get_or (ids graph.abandoned) i d) (get_or (ids graph.owned) j d) i j left right up_a up_b i_in j_in
    (ap (same_span (get_or graph.abandoned i left).id) at_i ∙ tells_span.itself (get_or graph.abandoned i left).id)
    (ap (same_span (get_or graph.owned j right).id) at_j ∙ tells_span.itself (get_or graph.owned j right).id)
    ∙ (λ k. are_partners (sym (slice_get-get_or graph.abandoned i left i_in) k) (sym (slice_get-get_or graph.owned j right j_in) k))

-- who is in the short set was reached
stands : (graph : Groups) (onto : List (Option ℕ)) (reached : List Bool) → (s : IsSearched graph onto reached) → (i : ℕ) → i < length onto → is_short reached (mate onto i) ≡ true → IsReached s.entries i
stands graph onto reached s i h e = search (rules, mate_cases)

-- a closed test holds of each entry
passes : (graph : Groups) (onto : List (Option ℕ)) (reached : List Bool) (s : IsSearched graph onto reached) (test : ℕ → Bool)
    → ((i : ℕ) → i < length onto → mate onto i ≡ None → test i ≡ true)
    → ((i j a : ℕ) → i < length onto → test i ≡ true → compatible_at graph i j ≡ true → mate onto a ≡ Some j → test a ≡ true)
    → (n t : ℕ) → t < n → t < length s.entries → test (group s.entries t) ≡ true
passes graph onto reached s test out step zero t h l = absurd (omega arith)
passes graph onto reached s test out step (suc n) t h l = elim (mate_cases (mate onto (group s.entries t))) [
  | inl m ↦ out (group s.entries t) (s.search.linked.within t l) m
  | inr m ↦
      let lower : before s.entries t < t = s.search.linked.earlier t m.0 l m.1 in
      let lower_in : before s.entries t < length s.entries = omega arith in
      let lower_n : before s.entries t < n = omega arith in
      step (group s.entries (before s.entries t)) m.0 (group s.entries t) (s.search.linked.within (before s.entries t) lower_in)
      (passes graph onto reached s test out step n (before s.entries t) lower_n lower_in) (s.search.linked.joined_to t m.0 l m.1) m.1
]

pub outcome : (graph : Groups) (onto planned : List (Option ℕ)) (reached : List Bool) → IsAscending (ids graph.abandoned) → IsAscending (ids graph.owned)
    → length onto ≡ length graph.abandoned → length planned ≡ length graph.owned → Joins graph onto → ArePaired onto planned → IsSearched graph onto reached
    → IsOutcome same_span (sides_of graph) onto reached
unfolding sides_of
outcome graph onto planned reached up_a up_b long_onto long_planned joins paired s =
    let left_ids : length (ids graph.abandoned) ≡ length graph.abandoned = length-map graph.abandoned (λ (x : Entry). x.id) in
    let right_ids : length (ids graph.owned) ≡ length graph.owned = length-map graph.owned (λ (x : Entry). x.id) in
    let right : (i j : ℕ) → mate onto i ≡ Some j → j < length (ids graph.owned) = λ i j m. let l : j < length planned = mate_within planned j i (paired.forth i j m) in omega arith in
    let same : (i j : ℕ) (d : SpanId) → i < length (ids graph.abandoned) → j < length (ids graph.owned)
    → any_compatible graph (get_or (ids graph.abandoned) i d) (get_or (ids graph.owned) j d) ≡ compatible_at graph i j =
    λ i j d il jl. any_compatible-ids graph up_a up_b i j d (omega arith) (omega arith) in
    let in_left : (i : ℕ) → i < length onto → i < length (ids graph.abandoned) = λ i h. omega arith in
    let in_onto : (i : ℕ) → i < length (ids graph.abandoned) → i < length onto = λ i h. omega arith in
    record {
      left_once = distinct-from_ascending (ids graph.abandoned) up_a;
      right_once = distinct-from_ascending (ids graph.owned) up_b;
      long = long_onto ∙ sym left_ids;
      joins = λ i j d m. same i j d (in_left i (mate_within onto i j m)) (right i j m) ∙ joins i j m;
      right_in = right;
      once = λ i a j m n. let e : Some i ≡ Some a = sym (paired.forth i j m) ∙ paired.forth a j n in cc;
      closed = λ i j d il short jl c.
          let at : IsReached s.entries i = stands graph onto reached s i (in_onto i il) short in
          s.search.closed at.0 j at.1 (ap (λ x. compatible_at graph x j) at.2 ∙ (sym (same i j d il jl) ∙ c));
      are_planned = s.search.are_planned;
      least = λ test out step i il short.
          let at : IsReached s.entries i = stands graph onto reached s i (in_onto i il) short in
          sym (ap test at.2) ∙ passes graph onto reached s test (λ k h m. out k (in_left k h) m)
          (λ k j a h p c m. step k j a (in_left k h) p (λ d. same k j d (in_left k h) (right a j m) ∙ c) m)
          (suc at.0) at.0 (omega arith) at.1;
    }
