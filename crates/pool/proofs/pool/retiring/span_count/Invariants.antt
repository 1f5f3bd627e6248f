use Rattle.std.proofs.Common.{◌≡◌, take}
use Rattle.pool.specs.Handover.{span_count}
use Rattle.pool.proofs.pool.retiring.span_count.Given as goal

abbrev pub invariant-loop-one : goal.invariant-loop-one
invariant-loop-one l = l.count ≡ span_count (take l.one-index l.going)
