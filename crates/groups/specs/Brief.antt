-- What is told of a group at one look.
use Rattle.std.specs.Prelude.{◌≡◌, Bool, List, length}
use Rattle.span.specs.declared.class.Class.{Class}
use Rattle.span.specs.State.{SpanState}
use Rattle.groups.specs.Spans.{union_of}
use Rattle.groups.specs.declared.brief.Brief.{Brief}

-- what the brief tells is so of the spans, whose head is of the class
pub record IsBriefOf (class : Class) (spans : List SpanState) (paged closed : Bool) (brief : Brief)
    : Type 0 where
  pub class_is : brief.class ≡ class
  pub spans_is : brief.spans ≡ length spans
  pub occupied_is : brief.occupied ≡ union_of spans
  pub paged_is : brief.paged ≡ paged
  pub closed_is : brief.closed ≡ closed
