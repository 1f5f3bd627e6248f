use Rattle.std.proofs.Common.{length, ◌-◌}
use Rattle.shard.proofs.shard.retiring.sample.Given as goal

abbrev pub decreases-loop-index : goal.decreases-loop-index
decreases-loop-index g l = length l.groups.items - l.index
