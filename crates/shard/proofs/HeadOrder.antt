-- How many heads of a row are lower than an id, as far as halving knows it.
use Rattle.std.proofs.Common.{◌≡◌, ◌∙◌, ℕ, ◌+◌, ◌<◌, ◌≤◌, List, Some, ap, arith, inl, inr, slice_get, sym}
use Rattle.std.proofs.lemmas.Bool.{cases_lt}
use Rattle.std.proofs.lemmas.Option.{slice_get_within}
use Rattle.span.specs.declared.id.SpanId.{SpanId}
use Rattle.span.specs.Ids.{rank}
use Rattle.groups.specs.Group.{Ascend}
use Rattle.groups.proofs.Lists.{same_some, there_at}
use Rattle.shard.specs.Group.{GroupState}

module _ (groups : List GroupState) (up : Ascend groups) (id : SpanId) (middle : ℕ) (group : GroupState) (here : slice_get groups middle ≡ Some group) where
  -- up to a group with a lower head all heads are lower
  pub lower_more : rank group.head.id < rank id → (other : ℕ) (g : GroupState) → other < middle + 1 → slice_get groups other ≡ Some g → rank g.head.id < rank id
  lower_more less other g below there = elim (cases_lt other middle) [
    | inl before ↦ omega (arith, up other middle g group before there here, less)
    | inr after ↦
        let at : other ≡ middle = omega arith in
        let same : g ≡ group = same_some (sym there ∙ ap (slice_get groups) at ∙ here) in
        rw same less
  ]

  -- from a group on with a head that is no lower none is
  pub others_more : rank id ≤ rank group.head.id → (other : ℕ) (g : GroupState) → middle ≤ other → slice_get groups other ≡ Some g → rank id ≤ rank g.head.id
  others_more more other g above there = elim (cases_lt middle other) [
    | inl after ↦ omega (arith, up middle other group g after here there, more)
    | inr before ↦
        let at : other ≡ middle = omega arith in
        let same : g ≡ group = same_some (sym there ∙ ap (slice_get groups) at ∙ here) in
        rw same more
  ]

  -- so many heads are lower than that of a group as groups stand before it
  pub lower_here : (result : ℕ) → rank group.head.id ≡ rank id → ((other : ℕ) (g : GroupState) → other < result → slice_get groups other ≡ Some g → rank g.head.id < rank id)
      → ((other : ℕ) (g : GroupState) → result ≤ other → slice_get groups other ≡ Some g → rank id ≤ rank g.head.id) → result ≡ middle
  lower_here result same lower others = elim (cases_lt result middle) [
    | inl before ↦
        let within = slice_get_within groups middle group here in
        let reached = there_at groups result (omega (arith, before, within)) in
        absurd (omega (arith, up result middle reached.0 group before reached.1 here, others result reached.0 (omega arith) reached.1, same))
    | inr after ↦ elim (cases_lt middle result) [
      | inl past ↦ absurd (omega (arith, lower middle group past here, same))
      | inr at ↦ omega arith
    ]
  ]
