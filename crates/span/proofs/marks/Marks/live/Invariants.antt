use Rattle.std.proofs.Common.{◌≡◌}
use Rattle.bitmap.specs.Slots.{slots_where}
use Rattle.span.specs.Marks.{is_live_at, marks_of}
use Rattle.span.proofs.marks.Marks.live.Given as goal

abbrev pub invariant-loop-slot : goal.invariant-loop-slot
invariant-loop-slot l = l.slots ≡ slots_where (is_live_at (marks_of l.fn.self)) l.slot
