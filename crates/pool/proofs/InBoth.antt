-- A span that is in the pool and in a shard, too.
use Rattle.std.proofs.Common.{zero, suc, ◌≡◌, ℕ, Bool, List, [], ◌∷◌, Some, slice_get, ◌∙◌, ◌⊎◌, ap, sym, refl, inl, inr, ◌↔◌, IsTrue, false}
use Rattle.std.proofs.lemmas.Bool.{cases_Bool, true≢false}
use Rattle.span.specs.Ids.{same_span}
use Rattle.span.specs.State.{SpanState}
use Rattle.span.specs.declared.id.SpanId.{SpanId}
use Rattle.span.proofs.Ids.{same_id_from_test, test_from_same_id}
use Rattle.groups.specs.Group.{Group, IsElsewhere, spans_of}
use Rattle.groups.specs.Spans.{HasNoSpan, IsSpanAt}
use Rattle.groups.proofs.Lists.{same_some}
use Rattle.shard.specs.Group.{GroupState}
use Rattle.pool.specs.Handover.{HaveOneIn}
use Rattle.pool.specs.Ranked.{head_rank, in_order}
use Rattle.pool.specs.State.{PooledState}
use Rattle.pool.proofs.Arranged.{arranged-in, in-arranged}

neither : (first : SpanState) (spans : List SpanState) (id : SpanId) → same_span first.id id ≡ false → HasNoSpan spans id → HasNoSpan (first ∷ spans) id
neither first spans id other none zero (span, here, is) =
    true≢false (sym (test_from_same_id first.id id (ap (λ (s : SpanState). s.id) (same_some here) ∙ is)) ∙ other)
neither first spans id other none (suc place) at = none place at

-- one of the spans has the id, or none has
among : (spans : List SpanState) (id : SpanId) → ((place : ℕ) × IsSpanAt spans id place) ⊎ HasNoSpan spans id
among [] id = inr (λ place at. absurd (let none = at.1 in cc))
among (first ∷ spans) id = elim (cases_Bool (same_span first.id id)) [
  | inl same ↦ inl (0, (first, refl, same_id_from_test first.id id same))
  | inr other ↦ elim (among spans id) [
    | inl there ↦ inl (suc there.0, there.1)
    | inr none ↦ inr (neither first spans id other none)
  ]
]

module _ {A : Type 0} where
  -- a group has a span of the id
  record Stands (groups : List (Group A)) (id : SpanId) : Type 0 where
    index : ℕ
    group : Group A
    here : slice_get groups index ≡ Some group
    place : ℕ
    span : SpanState
    span_is : slice_get (spans_of group) place ≡ Some span
    id_is : span.id ≡ id

  away : (first : Group A) (groups : List (Group A)) (id : SpanId) → HasNoSpan (spans_of first) id → IsElsewhere groups id → IsElsewhere (first ∷ groups) id
  away first groups id none others zero group here place at = none place (at.0, ap (λ (g : Group A). slice_get (spans_of g) place) (same_some here) ∙ at.1, at.2)
  away first groups id none others (suc index) group here place at = others index group here place at

  somewhere : (groups : List (Group A)) (id : SpanId) → Stands groups id ⊎ IsElsewhere groups id
  somewhere [] id = inr (λ index group here place at. absurd cc)
  somewhere (first ∷ groups) id = elim (among (spans_of first) id) [
    | inl at ↦ inl (record { index = 0; group = first; here = refl; place = at.0; span = at.1.0; span_is = at.1.1; id_is = at.1.2 })
    | inr none ↦ elim (somewhere groups id) [
      | inl there ↦ inl (record { index = suc there.index; group = there.group; here = there.here; place = there.place; span = there.span; span_is = there.span_is; id_is = there.id_is })
      | inr others ↦ inr (away first groups id none others)
    ]
  ]

  stands : (groups : List (Group A)) (id : SpanId) → (IsElsewhere groups id → ⊥) → Stands groups id
  stands groups id not_away = elim (somewhere groups id) [ inl found ↦ found | inr others ↦ absurd (not_away others) ]

-- a span of the groups stands among the others, too
abbrev pub Meets : {A B : Type 0} → List (Group A) → List (Group B) → Type 0
Meets {A} {B} groups others = (index : ℕ) × (group : Group A) × (slice_get groups index ≡ Some group)
    × ((place : ℕ) × (span : SpanState) × (slice_get (spans_of group) place ≡ Some span) × (IsElsewhere others span.id → ⊥))

pub Meets-flip : {A B : Type 0} (groups : List (Group A)) (others : List (Group B)) → Meets groups others → Meets others groups
Meets-flip groups others (index, group, here, (place, span, there, not_away)) =
    let found = stands others span.id not_away in
    (found.index, found.group, found.here, (found.place, found.span, found.span_is, (λ nowhere. nowhere index group here place (span, there, sym found.id_is))))

-- those of a row are those in order
pub HaveOneIn-in_order : (others : List GroupState) (row : List PooledState) (found : Bool) → IsTrue found ↔ HaveOneIn others row → IsTrue found ↔ HaveOneIn others (in_order row)
HaveOneIn-in_order others row found both = (
  (λ t. into (both.0 t)),
  (λ one. both.1 (from one)),
)
  where
    into : HaveOneIn others row → HaveOneIn others (in_order row)
    into (index, group, here, one) = let there = in-arranged head_rank row group (index, here) in (there.0, group, there.1, one)

    from : HaveOneIn others (in_order row) → HaveOneIn others row
    from (index, group, here, one) = let there = arranged-in head_rank row group (index, here) in (there.0, group, there.1, one)
