use Rattle.std.proofs.Common.{◌++◌, List, take}
use Rattle.pool.specs.Sparse.{AreParted}
use Rattle.shard.proofs.Entries.{entries_in}
use Rattle.span.specs.declared.entry.Entry.{Entry}
use Rattle.marks.proofs.sparse.push_groups_below.Given as goal

abbrev pub invariant-loop-at : goal.invariant-loop-at
invariant-loop-at g l = (before : List Entry) → AreParted l.bound before l.initial.entries.items
    → AreParted l.bound (before ++ entries_in (take l.at (g.H.LendsShard.lent l.lender).groups)) l.entries.items
