use Rattle.std.proofs.Common.{◌-◌, ◌*◌, ◌≤◌, vec_len}
use Rattle.bitmap.specs.Parts.{HasNoneFrom, numbers_in}
use Rattle.bitmap.proofs.parts.end_of.Given as goal

abbrev pub invariant-loop-end : goal.invariant-loop-end
invariant-loop-end l = HasNoneFrom (numbers_in l.fn.parts.items) (256 * l.end) × (l.fn.from ≤ l.end) × (l.end ≤ vec_len l.fn.parts)

abbrev pub decreases-loop-end : goal.decreases-loop-end
decreases-loop-end l = l.end - l.from
