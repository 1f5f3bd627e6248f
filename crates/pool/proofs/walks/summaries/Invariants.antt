use Rattle.std.proofs.Common.{◌≡◌, map, take, filter}
use Rattle.groups.specs.Group.{summary}
use Rattle.pool.proofs.Walked.{paged}
use Rattle.pool.proofs.walks.summaries.Given as goal

abbrev pub invariant-loop-group : goal.invariant-loop-group
invariant-loop-group g l = l.list.items ≡ map summary (filter paged (take l.group-index l.groups))
