-- What spans on one page keep beside themselves. No public clause cites this module.
use Rattle.std.specs.Prelude.{◌≡◌}
use Rattle.bitmap.specs.Slots.{SlotSet}
use Rattle.groups.specs.Spans.{AreApart, SpansState, all_spans, union_of}

-- the occupied set is kept, and the live sets are apart
pub record IsKept (spans : SpansState) (occupied : SlotSet) : Type 0 where
  pub occupied_is : occupied ≡ union_of (all_spans spans)
  pub apart : AreApart (all_spans spans)
