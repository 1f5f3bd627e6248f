use Rattle.std.proofs.Common.{take}
use Rattle.span.specs.Ids.{rank}
use Rattle.groups.specs.FirstLive.{IsFirstAmong}
use Rattle.groups.specs.Group.{spans_in}
use Rattle.pool.proofs.walks.first_live.Given as goal

abbrev pub invariant-loop-group : goal.invariant-loop-group
invariant-loop-group g l = IsFirstAmong (spans_in (take l.group-index l.groups)) (rank l.from) l.first
