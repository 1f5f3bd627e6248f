use Rattle.std.proofs.Common.{◌≡◌, length, take}
use Rattle.groups.specs.Group.{spans_in}
use Rattle.pool.proofs.walks.span_count.Given as goal

abbrev pub invariant-loop-group : goal.invariant-loop-group
invariant-loop-group g l = l.count ≡ length (spans_in (take l.group-index l.groups))
