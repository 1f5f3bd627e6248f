use Rattle.std.proofs.Common.{◌≡◌}
use Rattle.shard.specs.Heads.{lowered}
use Rattle.shard.proofs.ChangedBelow.{changed_below}
use Rattle.shard.proofs.head_indexes.lower_each.Given as goal

abbrev pub invariant-loop-entry : goal.invariant-loop-entry
invariant-loop-entry l = l.entries ≡ changed_below (lowered l.at) l.entry-index l.fn.entries
