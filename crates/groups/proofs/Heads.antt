-- Groups whose heads ascend, whatever else a group has.
use Rattle.std.proofs.Common.{zero, suc, ◌≡◌, ℕ, ◌+◌, ◌<◌, List, [], ◌∷◌, map, get_or, slice_get, Some, ap, arith, rules}
use Rattle.std.specs.List.Sorted.{IsStrictlyIncreasing}
use Rattle.std.proofs.lemmas.Bool.{cases_eq, cases_lt}
use Rattle.std.proofs.lemmas.List.{length-map}
use Rattle.span.specs.Ids.{rank}
use Rattle.span.specs.declared.id.SpanId.{SpanId}
use Rattle.groups.proofs.Lists.{same_some, there_at}

-- `id_of` gives the id of a group's head
module _ {G : Type 0} (id_of : G → SpanId) where
  abbrev pub AreAscending : List G → Type 0
  AreAscending groups = (low high : ℕ) (a b : G) → low < high → slice_get groups low ≡ Some a → slice_get groups high ≡ Some b → rank (id_of a) < rank (id_of b)

  abbrev head_rank : G → ℕ
  head_rank group = rank (id_of group)

  read_rank : (groups : List G) (at : ℕ) (group : G) → slice_get groups at ≡ Some group → get_or (map head_rank groups) at 0 ≡ rank (id_of group)
  read_rank [] at group here = absurd cc
  read_rank (first ∷ groups) zero group here = ap head_rank (same_some here)
  read_rank (first ∷ groups) (suc at) group here = read_rank groups at group here

  module _ (groups : List G) (ascend : AreAscending groups) where
    pub IsStrictlyIncreasing-heads : IsStrictlyIncreasing (map (λ (g : G). rank (id_of g)) groups)
    IsStrictlyIncreasing-heads k low =
        let long = length-map groups head_rank in
        let first = there_at groups k (omega arith) in
        let second = there_at groups (k + 1) (omega arith) in
        let less = ascend k (k + 1) first.0 second.0 (omega arith) first.1 second.1 in
        rw (read_rank groups k first.0 first.1, read_rank groups (k + 1) second.0 second.1) less

    -- one group has a head
    pub one_of_head : (i j : ℕ) (a b : G) → slice_get groups i ≡ Some a → slice_get groups j ≡ Some b → id_of a ≡ id_of b → a ≡ b
    one_of_head i j a b at_i at_j same = search (rules, cases_lt, cases_eq, same_some)
