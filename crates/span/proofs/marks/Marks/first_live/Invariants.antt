use Rattle.std.proofs.Common.{◌≡◌, ◌%◌, ◌≤◌, ◌<◌, ℕ, get_or}
use Rattle.span.specs.Marks.{marks_of}
use Rattle.span.proofs.marks.Marks.first_live.Given as goal

abbrev pub invariant-loop-slot : goal.invariant-loop-slot
invariant-loop-slot l = (slot : ℕ) → l.fn.from ≤ slot → slot < l.slot → get_or (marks_of l.fn.self) slot 0 % 2 ≡ 0
