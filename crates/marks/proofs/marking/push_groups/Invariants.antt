use Rattle.std.proofs.Common.{◌≡◌, ◌++◌, take}
use Rattle.shard.proofs.Entries.{entries_in}
use Rattle.marks.proofs.marking.push_groups.Given as goal

abbrev pub invariant-loop-index : goal.invariant-loop-index
invariant-loop-index g l = l.entries.items ≡ l.initial.entries.items ++ entries_in (take l.index (g.H.LendsShard.lent l.lender).groups)
