-- A search: its start, and what one more entry leaves
use Rattle.std.proofs.Common.{ℕ, ◌+◌, ◌<◌, ◌≤◌, ◌≡◌, Bool, true, false, List, [], ◌∷◌, ◌++◌, length, Option, Some, sym, ◌∙◌, ap, subst, ◌⊎◌, inl, inr, arith, set, get_or-set_same, get_or-set_other, rules}
use Rattle.std.proofs.lemmas.Bool.{cases_eq, cases_lt, both_ways}
use Rattle.std.proofs.lemmas.List.{get_or_append_left, get_or_push, length_push}
use Rattle.std.proofs.lemmas.List.Sums.{sum_by-set}
use Rattle.augment.specs.declared.walks.Reached.{Reached}
use Rattle.augment.specs.Mates.{mate, ArePaired}
use Rattle.mesh_graph.specs.Groups.{Groups, compatible_at}
use Rattle.augment.specs.Walks.{group, before, AreReached, is_passed, IsReached, IsSearch, IsWalk, unpassed}
use Rattle.augment.proofs.Pairing.{mate_within}

-- an entry of a list with one more is that of the list, or the last one
pub group_kept : (entries : List Reached) (e : Reached) (t : ℕ) → t < length entries → group (entries ++ e ∷ []) t ≡ group entries t
group_kept entries e t h = ap (λ r. r.group) (get_or_append_left entries (e ∷ []) (record { group = 0; before = 0 }) t h)

pub before_kept : (entries : List Reached) (e : Reached) (t : ℕ) → t < length entries → before (entries ++ e ∷ []) t ≡ before entries t
before_kept entries e t h = ap (λ r. r.before) (get_or_append_left entries (e ∷ []) (record { group = 0; before = 0 }) t h)

pub group_last : (entries : List Reached) (e : Reached) (t : ℕ) → length entries ≡ t → group (entries ++ e ∷ []) t ≡ e.group
group_last entries e t h = ap (λ r. r.group) (get_or_push entries e (record { group = 0; before = 0 }) t h)

pub before_last : (entries : List Reached) (e : Reached) (t : ℕ) → length entries ≡ t → before (entries ++ e ∷ []) t ≡ e.before
before_last entries e t h = ap (λ r. r.before) (get_or_push entries e (record { group = 0; before = 0 }) t h)

-- a place below the length of a list with one more
pub below_push : (entries : List Reached) (e : Reached) (t : ℕ) → t < length (entries ++ e ∷ []) → (t < length entries) ⊎ (length entries ≡ t)
below_push entries e t h = search (rules, length_push, cases_lt)

pub stands_kept : (entries : List Reached) (e : Reached) (i : ℕ) → IsReached entries i → IsReached (entries ++ e ∷ []) i
stands_kept entries e i s = search (rules, length_push, group_kept)

pub stands_last : (entries : List Reached) (e : Reached) → IsReached (entries ++ e ∷ []) e.group
stands_last entries e = search (rules, length_push, group_last)

-- i, the mate of k, is reached over k, which was not passed, from entry at
pub linked_more : (graph : Groups) (onto : List (Option ℕ)) (entries : List Reached) (reached : List Bool) (i k at : ℕ) → IsWalk graph onto entries reached
    → at < length entries → compatible_at graph (group entries at) k ≡ true → is_passed reached k ≡ false → mate onto i ≡ Some k
    → AreReached graph onto (entries ++ record { group = i; before = at } ∷ [])
linked_more graph onto entries reached i k at s at_in j unpassed mate_i =
    search (rules, group_last, before_last, both_ways, below_push, group_kept, mate_within, before_kept)

pub search_more : (graph : Groups) (onto planned : List (Option ℕ)) (entries : List Reached) (reached : List Bool) (next i k at : ℕ) → ArePaired onto planned
    → IsSearch graph onto entries reached next → next ≤ length entries → at < length entries → k < length reached
    → compatible_at graph (group entries at) k ≡ true → is_passed reached k ≡ false → mate onto i ≡ Some k
    → IsSearch graph onto (entries ++ record { group = i; before = at } ∷ []) (set reached k true) next
search_more graph onto planned entries reached next i k at paired s next_in at_in k_in j unpassed mate_i =
    let e : Reached = record { group = i; before = at } in
    let now : is_passed (set reached k true) k ≡ true = get_or-set_same reached k true false k_in in
    let kept : (q : ℕ) → is_passed reached q ≡ true → is_passed (set reached k true) q ≡ true = λ q h. elim (cases_eq q k) [
      | inl s ↦ ap (is_passed (set reached k true)) s ∙ now
      | inr n ↦ get_or-set_other reached k q true false n ∙ h
    ] in
    record {
      linked = linked_more graph onto entries reached i k at (record { linked = s.linked; passed = s.passed }) at_in j unpassed mate_i;
      passed = λ t q h m. elim (below_push entries e t h) [
        | inl l ↦ kept q (s.passed t q l (ap (mate onto) (sym (group_kept entries e t l)) ∙ m))
        | inr l ↦
            let m' : mate onto i ≡ Some q = ap (mate onto) (sym (group_last entries e t l)) ∙ m in
            let qk : q ≡ k = cc in
            ap (is_passed (set reached k true)) qk ∙ now
      ];
      mates_stand = λ a q h m. elim (cases_eq q k) [
        | inl o ↦
            let mk : mate onto a ≡ Some k = m ∙ ap (λ x. Some x) o in
            let pa : mate planned k ≡ Some a = paired.forth a k mk in
            let pi : mate planned k ≡ Some i = paired.forth i k mate_i in
            let ai : i ≡ a = cc in
            subst (IsReached (entries ++ e ∷ [])) ai (stands_last entries e)
        | inr n ↦ stands_kept entries e a (s.mates_stand a q (sym (get_or-set_other reached k q true false n) ∙ h) m)
      ];
      are_planned = λ q h. elim (cases_eq q k) [
        | inl o ↦ (i, mate_i ∙ ap (λ x. Some x) (sym o))
        | inr n ↦ s.are_planned q (sym (get_or-set_other reached k q true false n) ∙ h)
      ];
      left_out = λ a h m. stands_kept entries e a (s.left_out a h m);
      closed = λ t q h c. let tl : t < length entries = omega arith in kept q (s.closed t q h (ap (λ x. compatible_at graph x q) (sym (group_kept entries e t tl)) ∙ c));
    }

-- each place that is passed leaves one fewer
pub unpassed-set : (reached : List Bool) (k : ℕ) → k < length reached → is_passed reached k ≡ false → unpassed (set reached k true) + 1 ≡ unpassed reached
unpassed-set reached k h m = search (rules, sum_by-set)
