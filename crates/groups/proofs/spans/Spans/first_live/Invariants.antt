use Rattle.std.proofs.Common.{take}
use Rattle.span.specs.Ids.{rank}
use Rattle.groups.specs.FirstLive.{IsFirstAmong}
use Rattle.groups.specs.Spans.{all_spans}
use Rattle.groups.proofs.spans.Spans.first_live.Given as goal

abbrev pub invariant-loop-place : goal.invariant-loop-place
invariant-loop-place g l = IsFirstAmong (take l.place (all_spans l.fn.self)) (rank l.fn.from) l.first
