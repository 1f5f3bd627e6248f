-- A group where one span is replaced.
use Rattle.std.proofs.Common.{◌≡◌, ◌⊎◌, ℕ, Some, set, slice_get, ap, sym, ◌∙◌, rules}
use Rattle.span.proofs.OfClass.{IsOfClass-push}
use Rattle.span.specs.State.{SpanState}
use Rattle.span.specs.declared.change.Change.TheVariants.{Free}
use Rattle.span.specs.declared.class.Class.{Class}
use Rattle.span.specs.declared.id.SpanId.{SpanId}
use Rattle.span.specs.declared.key.Key.{Key}
use Rattle.groups.specs.Group.{Group, spans_of, with_span}
use Rattle.groups.specs.Spans.{AreSpansOf, IsSpanOf, with_free}
use Rattle.groups.proofs.Lists.{cases-set}

pub IsSpanOf-with_free : (class : Class) (span : SpanState) (key : Key) → IsSpanOf class span → IsSpanOf class (with_free span key)
IsSpanOf-with_free class span key its = record { class_is = its.class_is; of_class = IsOfClass-push class span.log (Free key.slot key.generation) its.of_class tt }

module _ {Closed : Type 0} where
  abbrev pub head_id : Group Closed → SpanId
  head_id group = group.head.id

  pub page-with_span : (group : Group Closed) (place : ℕ) (span : SpanState) → (with_span group place span).page ≡ group.page
  page-with_span group place span = search rules

  pub spans_of-with_span : (group : Group Closed) (place : ℕ) (span : SpanState) → spans_of (with_span group place span) ≡ set (spans_of group) place span
  spans_of-with_span group place span = search rules

  -- a span of the group is the changed one, or was there before
  pub cases-with_span : (group : Group Closed) (place : ℕ) (span : SpanState) (at : ℕ) (other : SpanState) → slice_get (spans_of (with_span group place span)) at ≡ Some other
      → ((at ≡ place) × (span ≡ other)) ⊎ ((at ≡ place → ⊥) × (slice_get (spans_of group) at ≡ Some other))
  cases-with_span group place span at other there = cases-set (spans_of group) place span at other (ap (λ spans. slice_get spans at) (sym (spans_of-with_span group place span)) ∙ there)

  class-with_span : (group : Group Closed) (place : ℕ) (span : SpanState) → span.class ≡ group.head.class → (with_span group place span).head.class ≡ group.head.class
  class-with_span group place span same = search rules

  -- the spans stay of the class of the head
  pub AreSpansOf-with_span : (group : Group Closed) (place : ℕ) (span : SpanState) → AreSpansOf group.head.class (spans_of group)
      → IsSpanOf group.head.class span → AreSpansOf (with_span group place span).head.class (spans_of (with_span group place span))
  AreSpansOf-with_span group place span are its at other there = search (rules, class-with_span, cases-with_span)
