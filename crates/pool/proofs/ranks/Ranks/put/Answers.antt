use Rattle.std.proofs.lemmas.List.Sorted.{IsPermutation-map}
use Rattle.pool.proofs.NotedRanks.{number}
use Rattle.pool.proofs.ranks.Ranks.put.Goals as goal

pub returns-clause-more : goal.returns-clause-more
returns-clause-more c = rw (← c.self.view_is) (IsPermutation-map number _ _ c.in-Ok.ensures.permutation)
