-- What stands on the page of a group, and a group after a put and a set.
use Rattle.std.specs.Prelude.{◌≡◌, ℕ, Option, Some, unwrap_or}
use Rattle.span.specs.Log.{Value}
use Rattle.span.specs.State.{SpanState}
use Rattle.span.specs.declared.class.Class.{Class}
use Rattle.page.specs.Words.{Words, blank_page, object_in, set_object}
use Rattle.groups.specs.Group.{Group, with_span}
use Rattle.groups.specs.Spans.{SpansState, set_spans, with_put, with_set_at}

-- the words of the page, and where there is none those of a new one
abbrev pub words_of : Option Words → Words
words_of page = unwrap_or page blank_page

-- the object at a slot of the page
abbrev pub object_at : Option Words → Class → ℕ → Value
object_at page class slot = object_in (words_of page) class slot

-- the page with another object at a slot
abbrev pub with_object : Option Words → Class → ℕ → Value → Option Words
with_object page class slot object = Some (set_object (words_of page) class slot object)

-- the group after a put of an object of the class at the slot: the head has it, and the page
abbrev pub put_group : {Closed : Type 0} → Group Closed → Class → ℕ → Value → Group Closed
put_group group class slot value =
    record group {
      head = with_put group.head slot value;
      page = with_object group.page class slot value;
    }

-- the group after the slot, which is live at the generation in the span at the place, is set to the
-- value: the span has it, and the page
abbrev pub set_group : {Closed : Type 0} → Group Closed → ℕ → SpanState → ℕ → ℕ → Value
    → Group Closed
set_group group place span slot generation value =
    record (with_span group place (with_set_at span slot generation value)) {
      page =
          with_object group.page span.class slot value;
    }
