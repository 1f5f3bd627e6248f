use Rattle.std.proofs.Common.{◌-◌, length}
use Rattle.marks.proofs.sparse.count_sample.Given as goal

abbrev pub decreases-loop-index : goal.decreases-loop-index
decreases-loop-index g l = length l.shard.groups - l.index
