use mathlib.Core.Logic.{inr}
use Rattle.std.proofs.Common.{sym}
use Rattle.teurlaks_c.proofs.calls.teurlaks_next_in_span.Goals as goal

pub returns-clause-live : goal.returns-clause-live
returns-clause-live c live = inr (
  c.in-Some-span_of.id,
  c.first_in_span.result,
  c.in-Some-span_of.ensures,
  record {
    held = c.in-Some.held.now;
    is = c.in-Some.ensures.value;
    same = sym c.in-Some.ensures.value;
    first = c.first_in_span.ensures;
  },
  c.next_reply-2.ensures,
)
