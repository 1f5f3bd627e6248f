use Rattle.std.proofs.Common.{◌≡◌, ◌≤◌, ◌+◌, ◌*◌, length, take, sum_by}
use Rattle.span.specs.declared.limits.TheConstants.{MOST_PAGES}
use Rattle.shard.specs.State.{ShardState}
use Rattle.arena_core.proofs.machine.Core.group_count.Given as goal

abbrev pub invariant-loop-shard : goal.invariant-loop-shard
invariant-loop-shard g l = record {
  count : l.count ≡ sum_by (λ (shard : ShardState). length shard.groups) (take l.shard-index l.shard-items) + l.initial.count;
  few : l.count ≤ l.initial.count + MOST_PAGES * l.shard-index;
}
