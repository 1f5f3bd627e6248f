use Rattle.std.proofs.Common.{◌≡◌, ◌≤◌, length, take, filter}
use Rattle.pool.proofs.Walked.{paged}
use Rattle.pool.proofs.walks.pages.Given as goal

abbrev pub invariant-loop-group : goal.invariant-loop-group
invariant-loop-group g l = (l.pages ≡ length (filter paged (take l.group-index l.groups))) × (l.pages ≤ l.group-index)
