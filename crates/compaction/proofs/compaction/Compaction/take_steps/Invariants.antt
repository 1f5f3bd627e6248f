use Rattle.std.proofs.Common.{◌≡◌, ◌<◌, ◌+◌, ℕ}
use Rattle.arena_core.specs.Sound.{IsSound}
use Rattle.arena_core.specs.State.{shown}
use Rattle.compaction.specs.Compacts.{TakesAll, going}
use Rattle.compaction.proofs.compaction.Compaction.take_steps.Given as goal

-- the steps so far have taken what is gone of the budget
abbrev pub invariant-loop-left : goal.invariant-loop-left
invariant-loop-left l = record {
  takes : (steps taken : ℕ) × TakesAll steps taken (going l.fn.self l.fn.core) (going l.self l.core) × (taken + l.left ≡ l.fn.budget);
  same : shown l.core ≡ shown l.fn.core;
  sound : l.left < l.fn.budget → IsSound l.core;
}

abbrev pub decreases-loop-left : goal.decreases-loop-left
decreases-loop-left l = l.left
