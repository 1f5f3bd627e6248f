use Rattle.std.proofs.Common.{◌≡◌, ◌++◌, drop, map, take}
use Rattle.marks.specs.Closings.{reopened}
use Rattle.marks.proofs.closing.reopen_all.Given as goal

abbrev pub invariant-loop-shard : goal.invariant-loop-shard
invariant-loop-shard g l = l.shards ≡ map reopened (take l.shard-index l.initial.shards) ++ drop l.shard-index l.initial.shards
