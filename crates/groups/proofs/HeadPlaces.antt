-- Where a head stands, or would stand, among groups whose heads ascend.
use Rattle.std.proofs.Common.{◌≡◌, ℕ, ◌<◌, ◌≤◌, List, length, Some, slice_get, ◌∙◌, ap, sym, inl, inr, arith, rules}
use Rattle.std.proofs.lemmas.Bool.{cases_eq, cases_lt}
use Rattle.std.proofs.lemmas.Option.{slice_get_within}
use Rattle.span.specs.Ids.{rank}
use Rattle.span.specs.declared.id.SpanId.{SpanId}
use Rattle.groups.proofs.Heads.{AreAscending}
use Rattle.groups.proofs.Lists.{there_at}
use Rattle.groups.proofs.Ranks.{id_from_rank}

-- `id_of` gives the id of a group's head
module _ {G : Type 0} (id_of : G → SpanId) where
  -- the heads below the index are lower than the number, and the others are not
  pub record IsLower (groups : List G) (number index : ℕ) : Type 0 where
    pub within : index ≤ length groups
    pub lower : (other : ℕ) (group : G) → other < index → slice_get groups other ≡ Some group → rank (id_of group) < number
    pub others : (other : ℕ) (group : G) → index ≤ other → slice_get groups other ≡ Some group → number ≤ rank (id_of group)

  module _ (groups : List G) (id : SpanId) (index : ℕ) (is : IsLower groups (rank id) index) where
    -- where no head is this one, those that are not lower are higher
    pub higher-lower : ((other : ℕ) (group : G) → slice_get groups other ≡ Some group → id_of group ≡ id → ⊥) → (other : ℕ) (group : G) → index ≤ other
        → slice_get groups other ≡ Some group → rank id < rank (id_of group)
    higher-lower none other group above there = search (rules, cases_eq, id_from_rank)

    -- a head that is not at the index is at none
    pub no_head-lower : AreAscending id_of groups → ((group : G) → slice_get groups index ≡ Some group → id_of group ≡ id → ⊥) → (other : ℕ) (group : G)
        → slice_get groups other ≡ Some group → id_of group ≡ id → ⊥
    no_head-lower ascend unlike other group here head_is =
        let same : rank (id_of group) ≡ rank id = ap rank head_is in
        elim (cases_lt other index) [
          | inl less ↦ (let low : rank (id_of group) < rank id = is.lower other group less here in omega arith)
          | inr more ↦ elim (cases_eq other index) [
            | inl at ↦ unlike group (ap (slice_get groups) (sym at) ∙ here) head_is
            | inr apart ↦ above other group (omega arith) here same
          ]
        ]
      where
        above : (other : ℕ) (group : G) → index < other → slice_get groups other ≡ Some group → rank (id_of group) ≡ rank id → ⊥
        above other group less there same =
            let at = there_at groups index (let long : other < length groups = slice_get_within groups other group there in omega arith) in
            let lower : rank (id_of at.0) < rank (id_of group) = ascend index other at.0 group less at.1 there in
            let least : rank id ≤ rank (id_of at.0) = is.others index at.0 (omega arith) at.1 in
            omega arith
