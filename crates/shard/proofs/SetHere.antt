-- A group gets no room by a set.
use Rattle.std.proofs.Common.{zero, suc, ◌≡◌, ℕ, Some, slice_get, ◌∙◌, ap, sym, refl, rules}
use Rattle.std.specs.FinSet.{union}
use Rattle.span.specs.Log.{Value, worn_slots}
use Rattle.span.specs.State.{IsSettable, SpanState}
use Rattle.span.specs.declared.class.Class.{Class}
use Rattle.span.proofs.Slots.{worn_slots-set}
use Rattle.groups.specs.Group.{occupied, spans_of}
use Rattle.groups.specs.Pages.{set_group}
use Rattle.groups.specs.Spans.{AreApart, union_of}
use Rattle.groups.proofs.Lists.{same_some}
use Rattle.groups.proofs.Standing.{spans_of-with_span}
use Rattle.groups.proofs.Unions.{keep_held}
use Rattle.shard.specs.Group.{GroupState, HasNoRoomIn, unusable}

module _ (group : GroupState) (span : SpanState) (slot generation : ℕ) (value : Value) where
  abbrev after : ℕ → GroupState
  after place = set_group group place span slot generation value

  worn-set_group : (place : ℕ) → slice_get (spans_of group) place ≡ Some span → worn_slots (after place).head.gens (after place).head.log ≡ worn_slots group.head.gens group.head.log
  worn-set_group zero here = worn_slots-set span.gens span.log slot generation value ∙ ap (λ (s : SpanState). worn_slots s.gens s.log) (sym (same_some here))
  worn-set_group (suc place) here = refl

  class-set_group : (place : ℕ) → slice_get (spans_of group) place ≡ Some span → (after place).head.class ≡ group.head.class
  class-set_group zero here = ap (λ (s : SpanState). s.class) (sym (same_some here))
  class-set_group (suc place) here = refl

  closed-set_group : (place : ℕ) → (after place).closed ≡ group.closed
  closed-set_group zero = refl
  closed-set_group (suc place) = refl

  module _ (place : ℕ) (here : slice_get (spans_of group) place ≡ Some span) (apart : AreApart (spans_of group)) (settable : IsSettable span slot generation value) where
    unusable-set_group : unusable (after place) ≡ unusable group
    unusable-set_group =
        let live : occupied (after place) ≡ occupied group = ap union_of (spans_of-with_span group place _) ∙ (keep_held (spans_of group) place span slot generation value here settable.0 apart).0 in
        λ i. union (live i) (worn-set_group place here i)

    -- a word with no room has none after the set
    pub HasNoRoomIn-set : (slot_limit : ℕ) (class : Class) (word : ℕ) → HasNoRoomIn slot_limit class group word → HasNoRoomIn slot_limit class (after place) word
    HasNoRoomIn-set slot_limit class word n = search (rules, closed-set_group, class-set_group, unusable-set_group)
