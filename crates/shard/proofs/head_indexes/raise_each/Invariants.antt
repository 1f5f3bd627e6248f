use Rattle.std.proofs.Common.{◌≡◌}
use Rattle.shard.specs.Heads.{raised}
use Rattle.shard.proofs.ChangedBelow.{changed_below}
use Rattle.shard.proofs.head_indexes.raise_each.Given as goal

abbrev pub invariant-loop-entry : goal.invariant-loop-entry
invariant-loop-entry l = l.entries ≡ changed_below (raised l.from) l.entry-index l.fn.entries
