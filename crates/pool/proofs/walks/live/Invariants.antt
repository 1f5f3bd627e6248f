use Rattle.std.proofs.Common.{◌≡◌, ◌*◌, ◌≤◌, take, filter}
use Rattle.bitmap.specs.declared.bits.TheConstants.{SLOTS}
use Rattle.groups.specs.Group.{spans_in}
use Rattle.groups.specs.Spans.{live_count}
use Rattle.pool.proofs.Walked.{paged}
use Rattle.pool.proofs.walks.live.Given as goal

abbrev pub invariant-loop-group : goal.invariant-loop-group
invariant-loop-group g l = (l.live ≡ live_count (spans_in (filter paged (take l.group-index l.groups)))) × (l.live ≤ SLOTS * l.group-index)
