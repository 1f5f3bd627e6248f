-- The loops of a search: what each keeps
use Rattle.std.proofs.Common.{ℕ, ◌+◌, ◌<◌, ◌≤◌, ◌≡◌, ◌≢◌, Bool, true, false, List, [], ◌∷◌, ◌++◌, length, Option, Some, None, ◌∙◌, ap, subst, inl, inr, arith, set, length-set, get_or-set_same, get_or-set_other, rules}
use Rattle.std.proofs.lemmas.Bool.{cases_eq, cases_lt}
use Rattle.std.proofs.lemmas.List.{length_push}
use Rattle.augment.specs.declared.walks.Reached.{Reached}
use Rattle.augment.specs.Mates.{mate, ArePaired}
use Rattle.mesh_graph.specs.Groups.{Groups, compatible_at}
use Rattle.augment.specs.Walks.{group, is_passed, IsReached, IsSearch, unpassed}
use Rattle.augment.proofs.Searching.{search_more, unpassed-set, group_kept, group_last, below_push, stands_kept, stands_last}

-- the places below i that are left out, each once
pub record IsStarting (onto : List (Option ℕ)) (entries : List Reached) (i : ℕ) : Type 0 where
  pub below : (t : ℕ) → t < length entries → group entries t < i
  pub out : (t : ℕ) → t < length entries → mate onto (group entries t) ≡ None
  pub rising : (t u : ℕ) → t < u → u < length entries → group entries t < group entries u
  pub all : (a : ℕ) → a < i → mate onto a ≡ None → IsReached entries a

pub starting_skip : (onto : List (Option ℕ)) (entries : List Reached) (i : ℕ) → IsStarting onto entries i → mate onto i ≢ None → IsStarting onto entries (i + 1)
starting_skip onto entries i s m = search (rules, cases_lt)

pub starting_push : (onto : List (Option ℕ)) (entries : List Reached) (i : ℕ) → IsStarting onto entries i → mate onto i ≡ None
    → IsStarting onto (entries ++ record { group = i; before = 0 } ∷ []) (i + 1)
starting_push onto entries i s m =
    let e : Reached = record { group = i; before = 0 } in
    record {
      below = λ t h. elim (below_push entries e t h) [
        | inl l ↦ let b : group entries t < i = s.below t l in let k : group (entries ++ e ∷ []) t ≡ group entries t = group_kept entries e t l in omega arith
        | inr l ↦ let k : group (entries ++ e ∷ []) t ≡ i = group_last entries e t l in omega arith
      ];
      out = λ t h. elim (below_push entries e t h) [
        | inl l ↦ ap (mate onto) (group_kept entries e t l) ∙ s.out t l
        | inr l ↦ ap (mate onto) (group_last entries e t l) ∙ m
      ];
      rising = λ t u tu h. elim (below_push entries e u h) [
        | inl l ↦
            let tl : t < length entries = omega arith in
            let old : group entries t < group entries u = s.rising t u tu l in
            let kt : group (entries ++ e ∷ []) t ≡ group entries t = group_kept entries e t tl in
            let ku : group (entries ++ e ∷ []) u ≡ group entries u = group_kept entries e u l in
            omega arith
        | inr l ↦
            let tl : t < length entries = omega arith in
            let b : group entries t < i = s.below t tl in
            let kt : group (entries ++ e ∷ []) t ≡ group entries t = group_kept entries e t tl in
            let ku : group (entries ++ e ∷ []) u ≡ i = group_last entries e u l in
            omega arith
      ];
      all = λ a h n. elim (cases_lt a i) [
        | inl l ↦ stands_kept entries e a (s.all a l n)
        | inr l ↦ let ai : i ≡ a = omega arith in subst (IsReached (entries ++ e ∷ [])) ai (stands_last entries e)
      ];
    }

-- the partners below from of the group of entry at were passed; total counts the entries and what was not passed
pub record IsReaching (graph : Groups) (onto : List (Option ℕ)) (entries : List Reached) (reached : List Bool) (at g from total owned : ℕ) : Type 0 where
  pub search : IsSearch graph onto entries reached at
  pub at_in : at < length entries
  pub group_is : group entries at ≡ g
  pub below : (k : ℕ) → k < from → compatible_at graph g k ≡ true → is_passed reached k ≡ true
  pub left : length entries + unpassed reached ≡ total
  pub places : length reached ≡ owned

below_more_partner : (graph : Groups) (reached : List Bool) (g from k : ℕ) → ((q : ℕ) → q < from → compatible_at graph g q ≡ true → is_passed reached q ≡ true)
    → ((q : ℕ) → from ≤ q → q < k → compatible_at graph g q ≡ true → is_passed reached q ≡ true) → is_passed reached k ≡ true → (q : ℕ) → q < k + 1
    → compatible_at graph g q ≡ true → is_passed reached q ≡ true
below_more_partner graph reached g from k below least here q h j = search (rules, cases_lt)

pub reaching_push : (graph : Groups) (onto planned : List (Option ℕ)) (entries : List Reached) (reached : List Bool) (at g from total owned k i : ℕ)
    → ArePaired onto planned → IsReaching graph onto entries reached at g from total owned
    → ((q : ℕ) → from ≤ q → q < k → compatible_at graph g q ≡ true → is_passed reached q ≡ true) → compatible_at graph g k ≡ true → k < owned
    → is_passed reached k ≡ false → mate planned k ≡ Some i
    → IsReaching graph onto (entries ++ record { group = i; before = at } ∷ []) (set reached k true) at g (k + 1) total owned
reaching_push graph onto planned entries reached at g from total owned k i paired s least j k_in unpassed_k m =
    let e : Reached = record { group = i; before = at } in
    let at_in : at < length entries = s.at_in in
    let n : length (entries ++ e ∷ []) ≡ length entries + 1 = length_push entries e in
    let k_places : k < length reached = rw s.places k_in in
    let now : is_passed (set reached k true) k ≡ true = get_or-set_same reached k true false k_places in
    let kept : (q : ℕ) → q < from → compatible_at graph g q ≡ true → is_passed (set reached k true) q ≡ true = λ q h jq. elim (cases_eq q k) [
      | inl o ↦ ap (is_passed (set reached k true)) o ∙ now
      | inr o ↦ get_or-set_other reached k q true false o ∙ s.below q h jq
    ] in
    let kept_between : (q : ℕ) → from ≤ q → q < k → compatible_at graph g q ≡ true
    → is_passed (set reached k true) q ≡ true = λ q l h jq. get_or-set_other reached k q true false (λ e. absurd (omega arith)) ∙ least q l h jq in
    let fewer : unpassed (set reached k true) + 1 ≡ unpassed reached = unpassed-set reached k k_places unpassed_k in
    let was : length entries + unpassed reached ≡ total = s.left in
    record {
      search = search_more graph onto planned entries reached at i k at paired s.search (omega arith) at_in k_places (ap (λ x. compatible_at graph x k) s.group_is ∙ j) unpassed_k (paired.back i k m);
      at_in = omega arith;
      group_is = group_kept entries e at at_in ∙ s.group_is;
      below = below_more_partner graph (set reached k true) g from k kept kept_between now;
      left = omega arith;
      places = length-set reached k true ∙ s.places;
    }

pub reaching_end : (graph : Groups) (onto : List (Option ℕ)) (entries : List Reached) (reached : List Bool) (at g from total owned : ℕ)
    → IsReaching graph onto entries reached at g from total owned → ((q : ℕ) → from ≤ q → compatible_at graph g q ≡ true → is_passed reached q ≡ true)
    → IsSearch graph onto entries reached (at + 1)
reaching_end graph onto entries reached at g from total owned s none = search (rules, cases_lt)
