use Rattle.std.proofs.Common.{◌≡◌, ◌-◌, ◌≤◌}
use Rattle.std.specs.Prelude.{vec_len}
use Rattle.shard.specs.Least.{KnowsLeast}
use Rattle.shard.proofs.ToldBelow.{IsTelling, seen_at}
use Rattle.shard.proofs.shard.retiring.tell_below.Given as goal

abbrev pub invariant-loop-index : goal.invariant-loop-index
invariant-loop-index g l = record {
  within : l.index ≤ l.count;
  known : KnowsLeast l.groups.items l.least.items;
  len : vec_len l.least ≡ vec_len l.fn.least;
  telling : IsTelling l.bound l.most (seen_at l.groups.items l.index) l.told.items;
}

abbrev pub decreases-loop-index : goal.decreases-loop-index
decreases-loop-index g l = l.count - l.index
