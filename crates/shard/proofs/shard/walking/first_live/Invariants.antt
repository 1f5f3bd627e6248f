use Rattle.std.proofs.Common.{take}
use Rattle.span.specs.Ids.{rank}
use Rattle.groups.specs.FirstLive.{IsFirstAmong}
use Rattle.groups.specs.Group.{spans_in}
use Rattle.shard.proofs.shard.walking.first_live.Given as goal

abbrev pub invariant-loop-index : goal.invariant-loop-index
invariant-loop-index g l = IsFirstAmong (spans_in (take l.index l.groups.items)) (rank l.from) l.first
