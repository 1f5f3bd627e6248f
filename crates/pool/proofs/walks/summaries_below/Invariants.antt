use Rattle.std.proofs.Common.{map, take, filter}
use Rattle.groups.specs.Group.{summary}
use Rattle.pool.specs.Sparse.{AreParted}
use Rattle.pool.proofs.Walked.{paged}
use Rattle.pool.proofs.walks.summaries_below.Given as goal

abbrev pub invariant-loop-index : goal.invariant-loop-index
invariant-loop-index g l = AreParted l.bound (map summary (filter paged (take l.index l.groups))) l.list.items
