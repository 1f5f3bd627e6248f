use Rattle.std.proofs.Common.{◌-◌, ◌≤◌}
use Rattle.groups.specs.Least.{HaveLeast}
use Rattle.groups.proofs.least.next_below.Given as goal

abbrev pub invariant-loop-index : goal.invariant-loop-index
invariant-loop-index l = record {
  first : l.fn.first ≤ l.index;
  end : l.index ≤ l.end;
  passed : HaveLeast l.bytes l.limit l.fn.first l.index;
}

abbrev pub decreases-loop-index : goal.decreases-loop-index
decreases-loop-index l = l.end - l.index
