use Rattle.std.proofs.Common.{◌≡◌, ◌+◌, ◌≤◌, ℕ}
use Rattle.groups.specs.Tally.{below}
use Rattle.groups.proofs.live_tally.bound_of.Given as goal

abbrev pub invariant-loop-live : goal.invariant-loop-live
invariant-loop-live l = record {
  counted : l.left + below l.counts l.live ≡ l.wanted;
  few : (lower : ℕ) → lower ≤ l.live → below l.counts lower ≤ l.wanted;
}
