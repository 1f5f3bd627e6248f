use Rattle.std.proofs.Common.{◌≡◌, ◌==◌}
use Rattle.bitmap.specs.Slots.{slots_where}
use Rattle.span.specs.Marks.{last_given, marks_of}
use Rattle.span.proofs.marks.Marks.slots_at.Given as goal

abbrev pub invariant-loop-slot : goal.invariant-loop-slot
invariant-loop-slot l = l.slots ≡ slots_where (λ slot. last_given (marks_of l.fn.self) slot == l.fn.generation) l.slot
