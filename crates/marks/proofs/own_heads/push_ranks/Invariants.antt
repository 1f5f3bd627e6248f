use Rattle.std.proofs.Common.{◌≡◌, ◌++◌, take}
use Rattle.shard.proofs.Entries.{entries_in}
use Rattle.marks.proofs.Ranks.{ranks_of}
use Rattle.marks.proofs.own_heads.push_ranks.Given as goal

abbrev pub invariant-loop-at : goal.invariant-loop-at
invariant-loop-at g l = l.ranks.items ≡ l.initial.ranks.items ++ ranks_of (entries_in (take l.at (g.H.LendsShard.lent l.lender).groups))
